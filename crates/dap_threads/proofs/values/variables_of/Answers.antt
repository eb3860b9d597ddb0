use Rattle.dap_threads.specs.Variables.{is_variable_of}
use Rattle.dap_threads.proofs.Unfolding.{named_all, named_more, named_new}
use Rattle.dap_threads.proofs.values.variables_of.Goals as goal

pub loop-named-init : goal.loop-named-init
loop-named-init c = named_new c.new-list.result c.new-list.ensures

pub loop-named-preserved : goal.loop-named-preserved
loop-named-preserved c =
    named_more (is_variable_of c.args.instance) c.args.program.now.index.names.items c.deref-named-items.result.now c.loop-named.named-index
    c.named-item.result c.loop-named.list c.add_variable.new.list c.deref-named-items.ensures.value c.loop-named-test.true c.named-item.is
    c.loop-named.invariant c.add_variable.ensures

pub returns : goal.returns
returns c =
    named_all (is_variable_of c.args.instance) c.args.program.now.index.names.items c.deref-named-items.result.now c.loop-named.named-index
    c.loop-named.list c.deref-named-items.ensures.value c.loop-named-test.false c.loop-named.invariant
