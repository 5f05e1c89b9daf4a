-- What is sent of the grants, one by one, and that it can be said.
use Rattle.std.proofs.Common.{ℕ, zero, suc, inl, inr, ◌≡◌, ◌<◌, ◌+◌, ◌-◌, true, List, [], ◌∷◌, length, drop}
use Rattle.std.proofs.Common.{drop-cons, get_or, map, Option, Some, None, refl, sym, ap, ◌∙◌, subst, arith}
use Rattle.std.specs.Prelude.{All, IfSome}
use Rattle.std.proofs.lemmas.List.{get_or-map, length-map}
use Rattle.std.proofs.lemmas.List.Folds.{flat_map-map}
use Rattle.std.specs.List.{cons_option, filter_map, flat_map, range_with_len}
use Rattle.smi_command.specs.declared.Due.{Due}
use Rattle.smi_command.specs.declared.Due.TheVariants.{Take, Drop, Run}
use Rattle.smi_command.specs.declared.Link.{Link}
use Rattle.smi_command.specs.Link.{due_of}
use Rattle.smi_grant.specs.declared.Command.{Command}
use Rattle.smi_grant.specs.declared.Holder.TheVariants.{Domain}
use Rattle.smi_grant.specs.Record.{is_settled}
use Rattle.smi_message.specs.Message.{Message}
use Rattle.smi_tree.specs.Roles.{is_parent}
use Rattle.smi_tree.specs.Hierarchy.{Hierarchy}
use Rattle.smi_tree.specs.Lawful.{IsBetween, IsTree}
use Rattle.smi_tree.specs.Lookups.{children_of, domain_count}
use Rattle.smi_station_grants.specs.Children.{meant}
use Rattle.smi_station_grants.specs.Commanded.{AreSo}
use Rattle.smi_station_grants.specs.declared.commanded.ChildChange as change
use Rattle.smi_station_grants.specs.declared.commanded.ChildChange.TheVariants as variants
use Rattle.smi_station_grants.specs.declared.commanded.CommandedChild.{CommandedChild}
use Rattle.smi_station_grants.proofs.KnownChildren.{each_child}
use Rattle.smi_station_output.specs.Out.{is_due, sent_after}
use Rattle.smi_station_output.proofs.Sending.{sent_twice}
use Rattle.smi_protocol.specs.Children.{ChildChange, Relinked, change_of, link_after}
use Rattle.smi_protocol.specs.Grants.{Grants}
use Rattle.smi_protocol.specs.Keeping.{child_request, child_requests}
use Rattle.smi_protocol.specs.Messages.{if_any}
use Rattle.smi_protocol.specs.Sound as sound_
use Rattle.smi_protocol.specs.Sound.{IsCommand, IsLink, IsSound, most_handed_on}
use Rattle.smi_protocol.proofs.Lists.{In}
use Rattle.smi_protocol.proofs.Ranges.{child_there, due_in}
use Rattle.smi_protocol.proofs.SoundRuns.{changed}
use Rattle.smi_protocol.proofs.Tables.{parent_is}
use Rattle.smi_station_decide.specs.Asked.{CanBeSaid, IfRelinked, MayBeAsked}

range_next : (low n i : ℕ) → i < n → range_with_len low (n - i) ≡ low ∷ range_with_len (low + 1) (n - (i + 1))
range_next low n i within = ap (range_with_len low) (one_less n i within)
  where
    one_less : (n i : ℕ) → i < n → n - i ≡ suc (n - (i + 1))
    one_less n i within = omega (arith, within)

drop_next : {X : Type 0} (xs : List X) (i : ℕ) (d : X) → i < length xs → drop i xs ≡ get_or xs i d ∷ drop (i + 1) xs
drop_next xs i d within = drop-cons xs i d within ∙ ap (λ n. get_or xs i d ∷ drop n xs) (later i)
  where
    later : (i : ℕ) → suc i ≡ i + 1
    later i = omega arith

-- what a link is due, one by one
pub due_sent : (before : List Message) (f : Due → Message) (due : ℕ → Option Due) (n i : ℕ) → i < n
    → sent_after before (map f (filter_map due (range_with_len i (n - i))))
    ≡ sent_after (sent_after before (map f (if_any (due i))))
    (map f (filter_map due (range_with_len (i + 1) (n - (i + 1)))))
due_sent before f due n i within =
    ap (λ xs. sent_after before (map f (filter_map due xs))) (range_next i n i within)
    ∙ by (due i) (filter_map due (range_with_len (i + 1) (n - (i + 1))))
  where
    by : (o : Option Due) (rest : List Due) → sent_after before (map f (cons_option o rest))
        ≡ sent_after (sent_after before (map f (if_any o))) (map f rest)
    by None rest = refl
    by (Some x) rest = refl

-- a list one by one
pub list_sent : {X : Type 0} (before : List Message) (f : X → List Message) (xs : List X) (i : ℕ) (d : X)
    → i < length xs
    → sent_after before (flat_map f (drop i xs))
    ≡ sent_after (sent_after before (f (get_or xs i d))) (flat_map f (drop (i + 1) xs))
list_sent before f xs i d within =
    ap (λ ys. sent_after before (flat_map f ys)) (drop_next xs i d within)
    ∙ sym (sent_twice before (f (get_or xs i d)) (flat_map f (drop (i + 1) xs)))

in_at : {X : Type 0} (xs : List X) (i : ℕ) (d : X) → i < length xs → In (get_or xs i d) xs
in_at [] i d within = absurd (omega (arith, within))
in_at (x ∷ xs) zero d within = inl refl
in_at (x ∷ xs) (suc i) d within = inr (in_at xs i d (omega (arith, within)))

-- a child in the list of a domain's
pub child_at : (h : Hierarchy) (d : ℕ) (xs : List ℕ) (i e : ℕ) → xs ≡ children_of h d → i < length xs
    → is_parent h (get_or xs i e) d ≡ true
child_at h d xs i e is within =
    subst (λ ys. is_parent h (get_or ys i e) d ≡ true) (sym is)
    (parent_is h d (get_or (children_of h d) i e)
    (in_at (children_of h d) i e (subst (λ ys. i < length ys) is within)))

pub child_within : (h : Hierarchy) → IsTree h → (d x : ℕ) → is_parent h x d ≡ true → IsBetween 1 (domain_count h) x
child_within h tree d x is = (child_there h tree x d is).0

-- what a sound link is due can be said
pub link_due : (h : Hierarchy) (most : ℕ) (l : Link) → IsLink h most l → (i : ℕ)
    → IfSome (due_of l i) (λ due. is_due due ≡ true)
link_due h most l sound i = by (due_of l i) refl
  where
    by : (o : Option Due) → due_of l i ≡ o → IfSome o (λ due. is_due due ≡ true)
    by None is = tt
    by (Some due) is = said due (due_in h most l i due sound is)
      where
        said : (due : Due) → sound_.is_due due ≡ true → is_due due ≡ true
        said (Take s) t = t
        said (Drop e) t = t
        said (Run e n c) t = t

-- so can what a child's link is due that a command has changed
pub relinked_due : (h : Hierarchy) (g : Grants) → IsSound h g → (d x : ℕ) → is_settled (g.records d).phase ≡ true
    → (c : Command) (l : Link) → IsCommand h c → is_parent h x d ≡ true → Relinked l ≡ change_of h g d c x
    → (i : ℕ) → IfSome (due_of l i) (λ due. is_due due ≡ true)
relinked_due h g sound d x rests c l command child is =
    link_due h most_handed_on l
    (subst (λ (z : ChildChange). IsLink h most_handed_on (link_after z (g.links (Domain d) x))) (sym is)
    (changed h g d c sound rests command x child).link)

-- so can what the links of all children are due
pub may_be_asked : (h : Hierarchy) → IsTree h → (g : Grants) → IsSound h g → (d : ℕ)
    → is_settled (g.records d).phase ≡ true → (c : Command) → IsCommand h c → (xs : List CommandedChild)
    → AreSo h g d c xs → All (MayBeAsked h) xs
may_be_asked h tree g sound d rests c command xs so = λ k e within.
    record {
      child = child_within h tree d (get_or xs k e).child (child k e within);
      link = by (get_or xs k e).child (child k e within) (get_or xs k e).change (so.each k e within);
    }
  where
    child : (k : ℕ) (e : CommandedChild) → k < length xs → is_parent h (get_or xs k e).child d ≡ true
    child k e within =
        subst (λ x. is_parent h x d ≡ true) (get_or-map (λ (y : CommandedChild). y.child) xs k e 0 within)
        (child_at h d (map (λ (y : CommandedChild). y.child) xs) k 0 so.children
        (omega (arith, length-map xs (λ (y : CommandedChild). y.child), within)))

    by : (x : ℕ) → is_parent h x d ≡ true → (z : change.ChildChange) → meant z ≡ change_of h g d c x
        → IfRelinked z CanBeSaid
    by x there (variants.Stays why) is = tt
    by x there (variants.Relinked l) is = relinked_due h g sound d x rests c l command there is
    by x there (variants.ComesInto m) is = tt

-- and that is what all changed links are due
pub requests_known : (h : Hierarchy) (n : ℕ) (g : Grants) (d : ℕ) (c : Command) (xs : List CommandedChild)
    → AreSo h g d c xs
    → flat_map (λ (x : CommandedChild). child_request h n d x.child (meant x.change)) xs ≡ child_requests h n g d c
requests_known h n g d c xs so =
    sym (flat_map-map (λ (p : ℕ × ChildChange). child_request h n d p.0 p.1)
    (λ (x : CommandedChild). (x.child, meant x.change)) xs)
    ∙ ap (flat_map (λ (p : ℕ × ChildChange). child_request h n d p.0 p.1)) (each_child h g d c (λ x z. (x, z)) xs so)
    ∙ flat_map-map (λ (p : ℕ × ChildChange). child_request h n d p.0 p.1) (λ x. (x, change_of h g d c x))
    (children_of h d)
