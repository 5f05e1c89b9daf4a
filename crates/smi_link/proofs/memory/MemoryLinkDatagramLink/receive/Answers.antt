use Rattle.std.proofs.Common.{rules, ◌≡◌, ◌+◌, ◌∙◌, ap, refl, take, Some, append-nil}
use Rattle.std.specs.Prelude.{slice_get}
use Rattle.std.specs.List.{filter_map}
use Rattle.smi_link.specs.declared.frame.ToReceive.TheVariants.{Datagram, Nothing, Fault}
use Rattle.smi_link.specs.Memory.{Memory, datagram_of, received_of, moved_on}
use Rattle.smi_link.proofs.Given.{received_more}
use Rattle.smi_link.proofs.memory.MemoryLinkDatagramLink.receive.Goals as goal

pub returns-in-Some-Datagram-clause-received : goal.returns-in-Some-Datagram-clause-received
returns-in-Some-Datagram-clause-received c =
    let next : slice_get c.args.self.now.coming c.args.self.now.place
    ≡ Some (Datagram c.in-Some-Datagram.frame) = search rules in
    let coming = ap (λ (v : Memory). v.coming) c.self.view_is in
    let place = ap (λ (v : Memory). v.place) c.self.view_is in
    let same : filter_map datagram_of (take (c.self.inside.place + 1) c.self.inside.coming.items)
    ≡ received_of (moved_on c.args.self.now) = rw (coming, place) refl in (
      c.give-count.ensures.few,
      ap (λ xs. Some xs) (same ∙ received_more c.args.self.now (Datagram c.in-Some-Datagram.frame) next
          ∙ rw c.give-count.ensures.bytes refl),
    )

pub returns-in-Some-Nothing-clause-received : goal.returns-in-Some-Nothing-clause-received
returns-in-Some-Nothing-clause-received c =
    let next : slice_get c.args.self.now.coming c.args.self.now.place ≡ Some Nothing = search rules in
    let coming = ap (λ (v : Memory). v.coming) c.self.view_is in
    let place = ap (λ (v : Memory). v.place) c.self.view_is in
    let same : filter_map datagram_of (take (c.self.inside.place + 1) c.self.inside.coming.items)
    ≡ received_of (moved_on c.args.self.now) = rw (coming, place) refl in
    ap (λ xs. Some xs) (same ∙ received_more c.args.self.now Nothing next ∙ append-nil (received_of c.args.self.now))

pub returns-in-Some-Fault-clause-received : goal.returns-in-Some-Fault-clause-received
returns-in-Some-Fault-clause-received c =
    let next : slice_get c.args.self.now.coming c.args.self.now.place ≡ Some Fault = search rules in
    let coming = ap (λ (v : Memory). v.coming) c.self.view_is in
    let place = ap (λ (v : Memory). v.place) c.self.view_is in
    let same : filter_map datagram_of (take (c.self.inside.place + 1) c.self.inside.coming.items)
    ≡ received_of (moved_on c.args.self.now) = rw (coming, place) refl in
    ap (λ xs. Some xs) (same ∙ received_more c.args.self.now Fault next ∙ append-nil (received_of c.args.self.now))
