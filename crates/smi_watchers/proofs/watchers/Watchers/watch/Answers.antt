use Rattle.std.proofs.Common.{◌-◌, arith, length, sym, ap, ◌∙◌, subst, refl}
use Rattle.smi_watchers.specs.Listing.{Listing}
use Rattle.smi_watchers.specs.Walked.{steps_of, place_in}
use Rattle.smi_watchers.specs.Kept.{IsKept, lists_of}
use Rattle.smi_watchers.proofs.ListLemmas.{others_none, answer_none, position_none, so_many, other_many}
use Rattle.smi_watchers.proofs.Listings.{kept_newer}
use Rattle.smi_watchers.proofs.Seen.{there, answered, renewed_seen, room_there, nobody}
use Rattle.smi_watchers.proofs.watchers.Watchers.watch.Goals as goal

pub renew_at-requires : goal.renew_at-requires
renew_at-requires c =
    let n = c.self.inside.lists in let lists = ap (λ (l : Listing). l.lists) c.self.view_is in
    let found = ap (λ k. place_in c.args.station (steps_of n (k - 1))) (sym c.from.ensures) ∙ sym c.place_of.ensures
    ∙ c.in-Some.is in
    there n c.self.invariant _ lists c.args.object c.requires.object_least c.requires.object_most c.args.station
    c.in-Some.place found

pub invariant_of-self : goal.invariant_of-self
invariant_of-self c =
    let n = c.self.inside.lists in let lists = ap (λ (l : Listing). l.lists) c.self.view_is in
    let found = ap (λ k. place_in c.args.station (steps_of n (k - 1))) (sym c.from.ensures) ∙ sym c.place_of.ensures
    ∙ c.in-Some.is in
    let held = there n c.self.invariant _ lists c.args.object c.requires.object_least c.requires.object_most
    c.args.station c.in-Some.place found in
    subst IsKept (sym c.renew_at.ensures.lists) (kept_newer n c.self.invariant c.in-Some.place held c.args.echo)

pub returns-in-Some-clause-answer : goal.returns-in-Some-clause-answer
returns-in-Some-clause-answer c =
    let n = c.self.inside.lists in let lists = ap (λ (l : Listing). l.lists) c.self.view_is in
    let found = ap (λ k. place_in c.args.station (steps_of n (k - 1))) (sym c.from.ensures) ∙ sym c.place_of.ensures
    ∙ c.in-Some.is in
    c.renew_at.ensures.answer
    ∙ answered n c.self.invariant _ lists c.args.object c.requires.object_least c.requires.object_most c.args.station
    c.in-Some.place found c.args.echo

pub returns-in-Some-clause-lists : goal.returns-in-Some-clause-lists
returns-in-Some-clause-lists c =
    let n = c.self.inside.lists in let lists = ap (λ (l : Listing). l.lists) c.self.view_is in
    let found = ap (λ k. place_in c.args.station (steps_of n (k - 1))) (sym c.from.ensures) ∙ sym c.place_of.ensures
    ∙ c.in-Some.is in
    ap lists_of c.renew_at.ensures.lists
    ∙ renewed_seen n c.self.invariant _ lists c.args.object c.requires.object_least c.requires.object_most
    c.args.station c.in-Some.place found c.args.echo

pub returns-in-Some-clause-full : goal.returns-in-Some-clause-full
returns-in-Some-clause-full c =
    let n = c.self.inside.lists in let lists = ap (λ (l : Listing). l.lists) c.self.view_is in
    let found = ap (λ k. place_in c.args.station (steps_of n (k - 1))) (sym c.from.ensures) ∙ sym c.place_of.ensures
    ∙ c.in-Some.is in
    let room = room_there n c.self.invariant _ lists c.args.object c.requires.object_least c.requires.object_most
    c.args.station c.in-Some.place found in
    (λ e. cc, λ full. absurd (omega (arith, room, full)))

pub returns-then-is_full-clause-full : goal.returns-then-is_full-clause-full
returns-then-is_full-clause-full c =
    let n = c.self.inside.lists in let lists = ap (λ (l : Listing). l.lists) c.self.view_is in
    let missed = ap (λ k. place_in c.args.station (steps_of n (k - 1))) (sym c.from.ensures) ∙ sym c.place_of.ensures
    ∙ c.in_default.is in
    let none = nobody n c.self.invariant _ lists c.args.object c.requires.object_least c.requires.object_most
    c.args.station missed in
    let others = ap length (others_none c.args.station _ none) in
    let full = so_many _ _ c.if-is_full.ensures.full in
    (λ _. omega (arith, others, full), λ _. refl)

pub returns-in_default-room-clause-full : goal.returns-in_default-room-clause-full
returns-in_default-room-clause-full c =
    let n = c.self.inside.lists in let lists = ap (λ (l : Listing). l.lists) c.self.view_is in
    let missed = ap (λ k. place_in c.args.station (steps_of n (k - 1))) (sym c.from.ensures) ∙ sym c.place_of.ensures
    ∙ c.in_default.is in
    let none = nobody n c.self.invariant _ lists c.args.object c.requires.object_least c.requires.object_most
    c.args.station missed in
    let others = ap length (others_none c.args.station _ none) in
    let room = other_many _ _ c.if-is_full.ensures.full in
    (λ e. cc, λ full. absurd (room (omega (arith, others, full))))

pub returns-in_default-room-clause-memory : goal.returns-in_default-room-clause-memory
returns-in_default-room-clause-memory c =
    let n = c.self.inside.lists in let lists = ap (λ (l : Listing). l.lists) c.self.view_is in
    let missed = ap (λ k. place_in c.args.station (steps_of n (k - 1))) (sym c.from.ensures) ∙ sym c.place_of.ensures
    ∙ c.in_default.is in
    λ _. answer_none c.args.station c.args.echo _
    (nobody n c.self.invariant _ lists c.args.object c.requires.object_least c.requires.object_most c.args.station
    missed)

pub add-requires-clause-absent : goal.add-requires-clause-absent
add-requires-clause-absent c =
    let n = c.self.inside.lists in let lists = ap (λ (l : Listing). l.lists) c.self.view_is in
    let missed = ap (λ k. place_in c.args.station (steps_of n (k - 1))) (sym c.from.ensures) ∙ sym c.place_of.ensures
    ∙ c.in_default.is in
    position_none c.args.station _ (nobody n c.self.invariant _ lists c.args.object c.requires.object_least
    c.requires.object_most c.args.station missed)

pub returns-clause-answer : goal.returns-clause-answer
returns-clause-answer c =
    let n = c.self.inside.lists in let lists = ap (λ (l : Listing). l.lists) c.self.view_is in
    let missed = ap (λ k. place_in c.args.station (steps_of n (k - 1))) (sym c.from.ensures) ∙ sym c.place_of.ensures
    ∙ c.in_default.is in
    sym (answer_none c.args.station c.args.echo _
    (nobody n c.self.invariant _ lists c.args.object c.requires.object_least c.requires.object_most c.args.station
    missed))

pub returns-clause-full : goal.returns-clause-full
returns-clause-full c =
    let n = c.self.inside.lists in let lists = ap (λ (l : Listing). l.lists) c.self.view_is in
    let missed = ap (λ k. place_in c.args.station (steps_of n (k - 1))) (sym c.from.ensures) ∙ sym c.place_of.ensures
    ∙ c.in_default.is in
    let none = nobody n c.self.invariant _ lists c.args.object c.requires.object_least c.requires.object_most
    c.args.station missed in
    let others = ap length (others_none c.args.station _ none) in
    let room = other_many _ _ c.if-is_full.ensures.full in
    (λ e. cc, λ full. absurd (room (omega (arith, others, full))))
