-- Deeds of an observer, put together.
use Rattle.std.proofs.Common.{ℕ, Bool, true, false, List, [], ◌∷◌, ◌++◌, refl, sym, ap, subst}
use Rattle.smi_node.specs.Linked.{LinkShows}
use Rattle.smi_node.specs.Served.{FailsOnce, ReceivesNone, ReceivesOne}
use Rattle.smi_view.specs.Pictured.{Pictured}
use Rattle.smi_screen.specs.Carrying.{NotesSo}
use Rattle.smi_screen.specs.Looking.{Comes, Deed, Delivers, Does, DoesAll, Fails, Looks, NotesTaken, Stepping, View}
use Rattle.smi_screen.specs.Looking.{Waits, view, with_link}

pub none : {T : Type 0} (S : Stepping T) (operator : ℕ) (a : View T) → Looks S operator a a false
none S operator a = ([], refl)

-- one deed, in which the station may have stopped
pub one : {T : Type 0} (S : Stepping T) (operator now : ℕ) (deed : Deed) (a b : View T) (stopped : Bool)
    → Does S operator deed now a b stopped → Looks S operator a b stopped
one S operator now deed a b false does = ((deed, now) ∷ [], (a, refl, does))
one S operator now deed a b true does = ([], a, refl, (deed, now), does)

does_both : {T : Type 0} (S : Stepping T) (operator : ℕ) (later sooner : List (Deed × ℕ)) (a b c : View T)
    → DoesAll S operator sooner a b → DoesAll S operator later b c → DoesAll S operator (later ++ sooner) a c
does_both S operator [] sooner a b c first last = subst (λ x. DoesAll S operator sooner a x) (sym last) first
does_both S operator (deed ∷ later) sooner a b c first last =
    (last.0, does_both S operator later sooner a b last.0 first last.1, last.2)

-- some deeds, and then others
pub both : {T : Type 0} (S : Stepping T) (operator : ℕ) (a b c : View T) (stopped : Bool)
    → Looks S operator a b false → Looks S operator b c stopped → Looks S operator a c stopped
both S operator a b c false first last =
    (last.0 ++ first.0, does_both S operator last.0 first.0 a b c first.1 last.1)
both S operator a b c true first last =
    (last.0 ++ first.0, last.1, does_both S operator last.0 first.0 a b last.1 first.1 last.2, last.3, last.4)

-- a datagram came and was delivered
pub delivered_one : {T : Type 0} (S : Stepping T) (operator now : ℕ) (bytes : List ℕ) (a b : View T)
    (link : LinkShows) (stopped : Bool)
    → ReceivesOne bytes a.link link → Delivers S bytes now (with_link a link) b stopped → Looks S operator a b stopped
delivered_one S operator now bytes a b link stopped received delivered =
    one S operator now (Comes bytes) a b stopped (link, received, delivered)

-- nothing came, or the link failed once more
pub waited_once : {T : Type 0} (S : Stepping T) (operator now : ℕ) (a : View T) (link : LinkShows)
    → ReceivesNone a.link link → Looks S operator a (with_link a link) false
waited_once S operator now a link received = one S operator now Waits a (with_link a link) false
    (link, received, refl, refl)

pub failed_once : {T : Type 0} (S : Stepping T) (operator now : ℕ) (a : View T) (link : LinkShows)
    → FailsOnce a.link link → Looks S operator a (with_link a link) false
failed_once S operator now a link failed = one S operator now Fails a (with_link a link) false
    (link, failed, refl, refl)

-- what a datagram tells is noted, and nothing else is changed
pub taken_so : {T : Type 0} (is : Bool) (bytes : List ℕ) (now : ℕ) (station : T) (link : LinkShows) (p q : Pictured)
    → NotesSo is bytes now p q → NotesTaken is bytes now (view station link p) (view station link q)
taken_so true bytes now station link p q notes = (refl, refl, notes)
taken_so false bytes now station link p q same = ap (λ x. view station link x) same
