use Rattle.std.proofs.Common.{◌≡◌, arith, length, ap, ◌∙◌}
use Rattle.smi_watchers.specs.Watching.{listed, others_of}
use Rattle.smi_watchers.proofs.ListLemmas.{left_none, position_none, other_many}
use Rattle.smi_watchers.proofs.Leaving.{listed_left}
use Rattle.smi_watchers.proofs.watchers.Watchers.renew.Goals as goal

pub add-requires-clause-absent : goal.add-requires-clause-absent
add-requires-clause-absent c =
    let s = c.args.station in let lists = c.args.self.now.lists in
    let left = ap (λ lists. listed lists c.args.object) c.leave.ensures.lists ∙ listed_left s c.args.object lists in
    rw left (position_none s _ (left_none s (listed lists c.args.object)))

pub returns-clause-room : goal.returns-clause-room
returns-clause-room c =
    let s = c.args.station in let lists = c.args.self.now.lists in
    let left : length (listed c.leave.new.self.lists c.args.object)
    ≡ length (others_of s (listed lists c.args.object)) =
    ap (λ lists. length (listed lists c.args.object)) c.leave.ensures.lists
    ∙ ap length (listed_left s c.args.object lists) in
    let few = c.is_full.ensures.lawful.few in let room = other_many _ _ c.if-is_full.ensures.full in
    omega (arith, left, few, room)
