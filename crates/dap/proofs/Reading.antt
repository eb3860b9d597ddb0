-- The texts that are read for a launch.
use Rattle.std.proofs.Common.{ℕ, ◌≡◌, ◌∙◌, List, [], Option, None, Some, Vec, Global, inl, inr, refl, sym, ap, subst}
use Rattle.std.specs.Prelude.{Result, Ok, Err, MatchResult, unwrap_or}
use Rattle.dap_messages.specs.declared.answer.Answer.{Answer}
use Rattle.dap.specs.Asking.{Asks, beside}
use Rattle.dap.specs.Files.{AreRead, FindsStimulus, IsMissing, IsTrace, IsUnread, TellsFound, text_of}
use Rattle.dap.specs.Unlaunched.{Fails}
use Rattle.dap.specs.declared.launch.Failed.{Failed}
use Rattle.dap.specs.declared.texts.Texts.{Texts}
use Rattle.dap.proofs.Refusing.{fails_memory, fails_weaker}

-- what is found of the stimulus, and told
abbrev pub IsFound : (List ℕ → Option (List ℕ) → Type 0) → Asks → Answer → Answer → List ℕ → Type 0
IsFound reads asked a b text =
    (found : Option (List ℕ)) × FindsStimulus reads asked.program asked.stimulus found × (text ≡ unwrap_or found []) × TellsFound found a b

-- a stimulus that is named
pub stimulus_named : (reads : List ℕ → Option (List ℕ) → Type 0) (asked : Asks) (r : Result (Vec ℕ Global) Failed) (s name : List ℕ) (a b : Answer) →
    asked.stimulus ≡ Some name → s ≡ name →
    MatchResult r (λ (text : Vec ℕ Global). reads s (Some text.items) × (b ≡ a)) (λ (failed : Failed). Fails (IsMissing reads s) failed b) →
    MatchResult r (λ (text : Vec ℕ Global). IsFound reads asked a b text.items) (λ (failed : Failed). Fails (IsUnread reads asked) failed b)
stimulus_named reads asked (Ok text) s name a b is same h =
    let there : FindsStimulus reads asked.program (Some name) (Some text.items) =
    (text.items, subst (λ (n : List ℕ). reads n (Some text.items)) same h.0, refl) in
    (Some text.items, subst (λ (o : Option (List ℕ)). FindsStimulus reads asked.program o (Some text.items)) (sym is) there, refl, h.1)
stimulus_named reads asked (Err failed) s name a b is same h =
    fails_weaker (IsMissing reads s) (IsUnread reads asked) failed b (λ n it. (s, inr (inl (is ∙ ap (λ (x : List ℕ). Some x) (sym same))), it)) h

-- the one beside the source
pub stimulus_near : (reads : List ℕ → Option (List ℕ) → Type 0) (asked : Asks) (r : Result (Vec ℕ Global) Failed) (s : List ℕ) (a b : Answer) →
    asked.stimulus ≡ None → s ≡ asked.program →
    MatchResult r
    (λ (text : Vec ℕ Global). (found : Option (List ℕ)) × reads (beside s) found × (text.items ≡ unwrap_or found []) × TellsFound found a b)
    (λ (failed : Failed). failed ≡ Failed.Memory) →
    MatchResult r (λ (text : Vec ℕ Global). IsFound reads asked a b text.items) (λ (failed : Failed). Fails (IsUnread reads asked) failed b)
stimulus_near reads asked (Ok text) s a b is same h =
    let there : FindsStimulus reads asked.program None h.0 = subst (λ (x : List ℕ). reads (beside x) h.0) same h.1 in
    (h.0, subst (λ (o : Option (List ℕ)). FindsStimulus reads asked.program o h.0) (sym is) there, h.2, h.3)
stimulus_near reads asked (Err failed) s a b is same h = fails_memory (IsUnread reads asked) failed b h

pub stimulus_from : (reads : List ℕ → Option (List ℕ) → Type 0) (r : Result (Vec ℕ Global) Failed) (s name : List ℕ) (a b : Answer) → s ≡ name →
    MatchResult r
    (λ (text : Vec ℕ Global). (found : Option (List ℕ)) × reads s found × (text.items ≡ unwrap_or found []) × TellsFound found a b)
    (λ (failed : Failed). failed ≡ Failed.Memory) →
    MatchResult r
    (λ (text : Vec ℕ Global). (found : Option (List ℕ)) × reads name found × (text.items ≡ unwrap_or found []) × TellsFound found a b)
    (λ (failed : Failed). failed ≡ Failed.Memory)
stimulus_from reads r s name a b same h =
    subst
    (λ (x : List ℕ). MatchResult r
    (λ (text : Vec ℕ Global). (found : Option (List ℕ)) × reads x found × (text.items ≡ unwrap_or found []) × TellsFound found a b)
    (λ (failed : Failed). failed ≡ Failed.Memory)) same h

-- a trace that is named
pub trace_named : (reads : List ℕ → Option (List ℕ) → Type 0) (asked : Asks) (r : Result (Option (Vec ℕ Global)) Failed) (s name : List ℕ)
    (a b : Answer) → asked.trace ≡ Some name → s ≡ name →
    MatchResult r (λ (trace : Option (Vec ℕ Global)). IsTrace reads (Some s) (text_of trace) × (b ≡ a))
    (λ (failed : Failed). Fails (IsMissing reads s) failed b) →
    MatchResult r (λ (trace : Option (Vec ℕ Global)). IsTrace reads asked.trace (text_of trace) × (b ≡ a))
    (λ (failed : Failed). Fails (IsUnread reads asked) failed b)
trace_named reads asked (Ok trace) s name a b is same h = (
  subst (λ (o : Option (List ℕ)). IsTrace reads o (text_of trace)) (ap (λ (x : List ℕ). Some x) same ∙ sym is) h.0,
  h.1,
)
trace_named reads asked (Err failed) s name a b is same h =
    fails_weaker (IsMissing reads s) (IsUnread reads asked) failed b (λ n it. (s, inr (inr (is ∙ ap (λ (x : List ℕ). Some x) (sym same))), it)) h

-- all texts beside the source
pub texts_more : (reads : List ℕ → Option (List ℕ) → Type 0) (asked : Asks) (r : Result Texts Failed) (source stimulus : Vec ℕ Global) (a m b : Answer) →
    IsFound reads asked a m stimulus.items →
    MatchResult r
    (λ (texts : Texts). (texts.source ≡ source) × (texts.stimulus ≡ stimulus) × IsTrace reads asked.trace (text_of texts.trace) × (b ≡ m))
    (λ (failed : Failed). Fails (IsUnread reads asked) failed b) →
    MatchResult r
    (λ (texts : Texts). (texts.source ≡ source) × IsFound reads asked a b texts.stimulus.items × IsTrace reads asked.trace (text_of texts.trace))
    (λ (failed : Failed). Fails (IsUnread reads asked) failed b)
texts_more reads asked (Ok texts) source stimulus a m b h k = (
  k.0,
  (h.0, h.1, ap (λ (v : Vec ℕ Global). v.items) k.1 ∙ h.2, subst (λ (x : Answer). TellsFound h.0 a x) (sym k.3) h.3),
  k.2,
)
texts_more reads asked (Err failed) source stimulus a m b h k = k

-- and the source
pub texts_all : (reads : List ℕ → Option (List ℕ) → Type 0) (asked : Asks) (r : Result Texts Failed) (source : Vec ℕ Global) (s : List ℕ) (a m b : Answer) →
    s ≡ asked.program → reads s (Some source.items) × (m ≡ a) →
    MatchResult r
    (λ (texts : Texts). (texts.source ≡ source) × IsFound reads asked m b texts.stimulus.items × IsTrace reads asked.trace (text_of texts.trace))
    (λ (failed : Failed). Fails (IsUnread reads asked) failed b) →
    MatchResult r
    (λ (texts : Texts). (found : Option (List ℕ)) × AreRead reads asked texts.source.items found (text_of texts.trace)
    × (texts.stimulus.items ≡ unwrap_or found []) × TellsFound found a b)
    (λ (failed : Failed). Fails (IsUnread reads asked) failed b)
texts_all reads asked (Ok texts) source s a m b same h k =
    let of : reads asked.program (Some texts.source.items) =
    subst (λ (v : Vec ℕ Global). reads asked.program (Some v.items)) (sym k.0) (subst (λ (n : List ℕ). reads n (Some source.items)) same h.0) in (
      k.1.0,
      record { of_source = of; of_stimulus = k.1.1; of_trace = k.2 },
      k.1.2,
      subst (λ (x : Answer). TellsFound k.1.0 x b) h.1 k.1.3,
    )
texts_all reads asked (Err failed) source s a m b same h k = k

pub source_missing : (reads : List ℕ → Option (List ℕ) → Type 0) (asked : Asks) (failed : Failed) (s : List ℕ) (b : Answer) → s ≡ asked.program →
    Fails (IsMissing reads s) failed b → Fails (IsUnread reads asked) failed b
source_missing reads asked failed s b same h = fails_weaker (IsMissing reads s) (IsUnread reads asked) failed b (λ n it. (s, inl same, it)) h
