use Rattle.std.proofs.Common.{◌≡◌, ◌<◌, ◌∙◌, ◌+◌, ◌++◌, ℕ, List, [], length, get_or, drop, drop_of_length-le, refl}
use Rattle.std.proofs.Common.{ap, sym, subst}
use Rattle.std.proofs.lemmas.List.{drop_more}
use Rattle.std.specs.List.{flat_map}
use Rattle.std.proofs.lemmas.List.Elements.{All-get_or}
use Rattle.smi_tree.specs.Hierarchy.{Hierarchy}
use Rattle.smi_tree.specs.Lawful.{IsBetween}
use Rattle.smi_tree.specs.Lookups.{domain_count}
use Rattle.smi_message.specs.Message.{Message}
use Rattle.smi_station_grants.specs.Children.{meant}
use Rattle.smi_command.specs.declared.Link.{Link}
use Rattle.smi_station_grants.specs.declared.commanded.ChildChange.{ChildChange}
use Rattle.smi_station_grants.specs.declared.commanded.ChildChange.TheVariants as change
use Rattle.smi_station_grants.specs.declared.commanded.CommandedChild.{CommandedChild}
use Rattle.smi_station_output.specs.Out.{sent_after}
use Rattle.smi_protocol.specs.Keeping.{child_request}
use Rattle.smi_protocol.specs.Step.{Out}
use Rattle.smi_station_decide.specs.Asked.{CanBeSaid, IfRelinked, MayBeAsked}
use Rattle.smi_station_decide.proofs.Sends.{list_sent}
use Rattle.smi_station_decide.proofs.run.send_to_children.Goals.{in-Relinked, in_default}
use Rattle.smi_station_decide.proofs.run.send_to_children.Goals as goal

-- one of those that may be asked
one_of : (h : Hierarchy) (known items : List CommandedChild) (i : ℕ) (one : CommandedChild) → items ≡ known
    → i < length items → one ≡ get_or items i one
    → ((k : ℕ) (e : CommandedChild) → k < length known → MayBeAsked h (get_or known k e)) → MayBeAsked h one
one_of h known items i one is within at asked =
    subst (MayBeAsked h) (sym at)
    (All-get_or (MayBeAsked h) items i one within
    (subst (λ (ys : List CommandedChild). (k : ℕ) (e : CommandedChild) → k < length ys → MayBeAsked h (get_or ys k e))
    (sym is) asked))

-- what is sent with one child more
one_asked : (f : CommandedChild → List Message) (xs : List CommandedChild) (i : ℕ) (one : CommandedChild)
    (out next : Out) → i < length xs → one ≡ get_or xs i one
    → next ≡ record out { datagrams = sent_after out.datagrams (f one) }
    → record next { datagrams = sent_after next.datagrams (flat_map f (drop (i + 1) xs)) }
    ≡ record out { datagrams = sent_after out.datagrams (flat_map f (drop i xs)) }
one_asked f xs i one out next within at is =
    ap (λ (o : Out). record o { datagrams = sent_after o.datagrams (flat_map f (drop (i + 1) xs)) }) is
    ∙ ap (λ (ms : List Message). record out { datagrams = ms })
    (ap (λ (y : CommandedChild). sent_after (sent_after out.datagrams (f y)) (flat_map f (drop (i + 1) xs))) at
    ∙ sym (list_sent out.datagrams f xs i one within))

-- and with one that is not asked
none_asked : (f : CommandedChild → List Message) (xs : List CommandedChild) (i : ℕ) (one : CommandedChild)
    (out next : Out) → i < length xs → one ≡ get_or xs i one → next ≡ out → f one ≡ []
    → record next { datagrams = sent_after next.datagrams (flat_map f (drop (i + 1) xs)) }
    ≡ record out { datagrams = sent_after out.datagrams (flat_map f (drop i xs)) }
none_asked f xs i one out next within at is none =
    ap (λ (o : Out). record o { datagrams = sent_after o.datagrams (flat_map f (drop (i + 1) xs)) }) is
    ∙ ap (λ (ms : List Message). record out { datagrams = sent_after out.datagrams ms })
    (sym (ap (flat_map f) (drop_more xs i one within)
    ∙ ap (λ (ms : List Message). ms ++ flat_map f (drop (i + 1) xs)) (ap f (sym at) ∙ none)))

no_request : (h : Hierarchy) (n d x : ℕ) (z : ChildChange) → ((l : Link) → z ≡ change.Relinked l → ⊥)
    → child_request h n d x (meant z) ≡ []
no_request h n d x (change.Stays why) other = refl
no_request h n d x (change.Relinked l) other = absurd (other l refl)
no_request h n d x (change.ComesInto m) other = refl

pub send_due-requires-clause-domain : goal.send_due-requires-clause-domain
send_due-requires-clause-domain c =
    subst (λ (h : Hierarchy). IsBetween 1 (domain_count h) c.one-item.result.child) (sym c.tree.ensures.value)
    (one_of c.args.kept.now.tree c.args.known.now c.as_slice-one-items.result.now c.loop-one.one-index
    c.one-item.result c.as_slice-one-items.ensures c.loop-one-test.true c.one-item.is c.requires.asked).child

pub send_due-requires-clause-link : goal.send_due-requires-clause-link
send_due-requires-clause-link c =
    subst (λ (z : ChildChange). IfRelinked z CanBeSaid) c.in-Relinked.is
    (one_of c.args.kept.now.tree c.args.known.now c.as_slice-one-items.result.now c.loop-one.one-index
    c.one-item.result c.as_slice-one-items.ensures c.loop-one-test.true c.one-item.is c.requires.asked).link

pub loop-one-preserved : goal.loop-one-preserved
loop-one-preserved c =
    let k = c.args.kept.now in
    let one = c.one-item.result in
    let f : CommandedChild → List Message = λ x. child_request k.tree k.number c.args.domain x.child (meant x.change) in
    let xs = c.as_slice-one-items.result.now in
    let i = c.loop-one.one-index in
    let out = c.loop-one.out in
    elim c.match-one.branch [
      | in-Relinked w ↦
          one_asked f xs i one out c.match-one.out c.loop-one-test.true c.one-item.is
          (w.out-is
          ∙ (rw (w.tree.ensures.value, w.number.ensures.value) at w.send_due.ensures)
          ∙ ap (λ (z : ChildChange). record out {
            datagrams = sent_after out.datagrams (child_request k.tree k.number c.args.domain one.child (meant z));
          }) (sym w.in-Relinked.is))
          ∙ c.loop-one.invariant
      | in_default w ↦
          none_asked f xs i one out c.match-one.out c.loop-one-test.true c.one-item.is w.out-is
          (no_request k.tree k.number c.args.domain one.child one.change w.in_default.not-Relinked)
          ∙ c.loop-one.invariant
    ]

pub returns : goal.returns
returns c =
    let k = c.args.kept.now in
    let f : CommandedChild → List Message = λ x. child_request k.tree k.number c.args.domain x.child (meant x.change) in
    let xs = c.as_slice-one-items.result.now in
    ap (λ (ys : List CommandedChild). record c.loop-one.out {
      datagrams = sent_after c.loop-one.out.datagrams (flat_map f ys);
    }) (sym (drop_of_length-le xs c.loop-one-test.false))
    ∙ c.loop-one.invariant
    ∙ ap (λ (ys : List CommandedChild). record c.args.out.now {
      datagrams = sent_after c.args.out.now.datagrams (flat_map f ys);
    }) c.as_slice-one-items.ensures
