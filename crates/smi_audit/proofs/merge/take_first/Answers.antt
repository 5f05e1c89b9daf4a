use Rattle.std.proofs.Common.{List, drop, sym, ap, ◌∙◌}
use Rattle.std.specs.Prelude.{slice_get}
use Rattle.smi_protocol.specs.declared.Entry.{Entry}
use Rattle.smi_audit.proofs.Merging.{one_further}
use Rattle.smi_audit.proofs.merge.take_first.Goals as goal

pub returns-clause-further : goal.returns-clause-further
returns-clause-further c =
    one_further c.args.audit.now c.accept.new.self c.args.journals.now c.args.place c.in-Some.entry
    c.index-journals-place.result c.index-journals-place-2.result c.pass.new.self c.in_ok-accept.field-0
    c.requires c.index-journals-place.is c.index-journals-place-2.is
    (ap (λ (z : List Entry). slice_get z 0) c.index-journals-place.is ∙ sym c.first.ensures ∙ sym c.copied.ensures
    ∙ c.in-Some.is)
    (c.pass.ensures ∙ ap (λ (z : List Entry). drop 1 z) (sym c.index-journals-place-2.is)) c.if-not-branch.false
    c.in_ok-accept.ensures.taken c.in_ok-accept.ensures.safe
