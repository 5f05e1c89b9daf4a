use Rattle.std.proofs.Common.{List, [], ◌∷◌, length, ap, ◌∙◌}
use Rattle.std.specs.Prelude.{option_map, unwrap_or}
use Rattle.smi_protocol.specs.declared.Entry.{Entry}
use Rattle.smi_audit.proofs.Puts.{grown_by_one, length_pushed}
use Rattle.smi_audit.proofs.growing.GrowingMerge.put.Goals as goal

pub invariant_of-self-2 : goal.invariant_of-self-2
invariant_of-self-2 c =
    grown_by_one c.self.inside.merge c.self.inside.start.value c.self.inside.journals.items
    (unwrap_or (option_map (λ last. last.value) c.self.inside.last_put) []) c.args.number c.args.entry.now
    c.push_at.new.journals.items c.of.result.value c.in_ok-push_at.ensures
    (c.of.ensures
    ∙ ap (λ z. (c.args.number, c.args.entry.now) ∷ unwrap_or (option_map (λ last. last.value) z) [])
    c.take.ensures.value)
    c.self.invariant

pub returns-clause-count : goal.returns-clause-count
returns-clause-count c =
    ap (λ (z : List (List Entry)). length z) c.in_ok-push_at.ensures
    ∙ length_pushed c.self.inside.journals.items c.args.number c.args.entry.now
    ∙ ap (λ z. length z.left) c.self.view_is
