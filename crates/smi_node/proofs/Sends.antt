-- What is sent, one datagram after the other.
use Rattle.std.proofs.Common.{◌≡◌, inl, inr, ℕ, suc, ◌+◌, ◌<◌, List, [], ◌∷◌, ◌++◌, length, drop, drop-cons, get_or}
use Rattle.std.proofs.Common.{Option, Some, None, Result, Ok, Err, refl, sym, ap, subst, ◌∙◌, append-nil}
use Rattle.std.proofs.Common.{append_assoc, arith}
use Rattle.std.specs.Prelude.{IfSome}
use Rattle.smi_message.specs.Message.{Message}
use Rattle.smi_link.specs.Link as link
use Rattle.smi_node.specs.Linked.{LinkShows, Sends, SendsOne, parcel}

-- an item and those after it
pub drop_next : {X : Type 0} (xs : List X) (i : ℕ) (d : X) → i < length xs → drop i xs ≡ get_or xs i d ∷ drop (i + 1) xs
drop_next xs i d within = drop-cons xs i d within ∙ ap (λ n. get_or xs i d ∷ drop n xs) (later i)
  where
    later : (i : ℕ) → suc i ≡ i + 1
    later i = omega arith

-- what a link says of one call
pub one_sent : {E : Type 0} (m : Message) (to : ℕ) (bytes : List ℕ) (a b : LinkShows) (r : Result (Unit {0}) E)
    → (to, bytes) ≡ parcel m
    → link.Sends a.handed b.handed to bytes r → b.received ≡ a.received → b.receives ≡ a.receives
    → link.CountsSend r a.failures b.failures → SendsOne m a b
one_sent m to bytes a b (Ok u) is sends same asked counts = (same, asked, inl (rw is at sends, counts))
one_sent m to bytes a b (Err e) is sends same asked counts = (same, asked, inr (sends, counts))

-- nothing is sent
pub none_sent : (a : LinkShows) → Sends [] a a
none_sent a = record {
  lost = 0;
  sent = [];
  without = (refl, refl);
  handed = all a.handed;
  failures = omega arith;
  received = refl;
  receives = refl;
}
  where
    all : (h : Option (List (ℕ × List ℕ))) → IfSome h (λ hs. h ≡ Some (hs ++ []))
    all (Some hs) = ap Some (sym (append-nil hs))
    all None = tt

-- one more is sent first
pub next_sent : (m : Message) (ms : List Message) (a b c : LinkShows) → SendsOne m a b → Sends ms b c
    → Sends (m ∷ ms) a c
next_sent m ms a b c (same, asked, inl one) more = record {
  lost = more.lost;
  sent = parcel m ∷ more.sent;
  without = inl (more.sent, refl, more.without);
  handed = joined a.handed b.handed c.handed one.0 more.handed;
  failures = more.failures ∙ ap (λ n. n + more.lost) one.1;
  received = more.received ∙ same;
  receives = more.receives ∙ asked;
}
  where
    joined : (h k l : Option (List (ℕ × List ℕ))) → IfSome h (λ hs. k ≡ Some (hs ++ parcel m ∷ []))
        → IfSome k (λ ks. l ≡ Some (ks ++ more.sent))
        → IfSome h (λ hs. l ≡ Some (hs ++ parcel m ∷ more.sent))
    joined None k l first rest = tt
    joined (Some hs) k l first rest = (rw first at rest) ∙ ap Some (append_assoc hs (parcel m ∷ []) more.sent)
next_sent m ms a b c (same, asked, inr one) more = record {
  lost = more.lost + 1;
  sent = more.sent;
  without = inr (more.lost, refl, more.without);
  handed = subst (λ h. IfSome h (λ hs. c.handed ≡ Some (hs ++ more.sent))) one.0 more.handed;
  failures = (let e = more.failures in let f = one.1 in omega (arith, e, f));
  received = more.received ∙ same;
  receives = more.receives ∙ asked;
}
