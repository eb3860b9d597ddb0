use Rattle.std.proofs.Common.{◌∙◌, ap, true}
use Rattle.std.proofs.lemmas.Result.{IfOk-weaker}
use Rattle.clap.specs.Simple.{app_of_fields, on_top}
use Rattle.command_words.proofs.commands.bare.Goals as goal

pub returns : goal.returns
returns c =
    let versioned = ap app_of_fields c.version.ensures
    ∙ ap (on_top (λ s. record s { has_version = true })) c.begun.ensures.app in
    let wanted = ap app_of_fields c.subcommand_required.ensures
    ∙ ap (on_top (λ s. record s { subcommand_required = true })) versioned in
    let helped = ap app_of_fields c.arg_required_else_help.ensures
    ∙ ap (on_top (λ s. record s { arg_required_else_help = true })) wanted in
    let local = ap (λ f. f.has_globals) c.arg_required_else_help.ensures
    ∙ (ap (λ f. f.has_globals) c.subcommand_required.ensures
    ∙ (ap (λ f. f.has_globals) c.version.ensures ∙ c.begun.ensures.local)) in
    IfOk-weaker c.bin_name.result _ _
    (λ made named. record { app = ap app_of_fields named.0 ∙ helped; local = ap (λ f. f.has_globals) named.0 ∙ local })
    c.bin_name.ensures
