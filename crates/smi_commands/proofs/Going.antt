-- What has been written and what is left to answer, at each turn.
use Rattle.std.proofs.Common.{◌≡◌, ℕ, ◌+◌, ◌-◌, ◌<◌, ◌≤◌, false, List, [], ◌∷◌, ◌++◌, length, take, drop, Option}
use Rattle.std.proofs.Common.{Some, None, Ok, Err, refl, sym, ap, subst, ◌∙◌, append_assoc, append-nil}
use Rattle.std.proofs.Common.{take-append-drop, arith}
use Rattle.std.proofs.Math.Seq.{take-append-add}
use Rattle.std.proofs.lemmas.List.{length-append, length-drop, length-take, take-append-le, take_at, drop-take}
use Rattle.std.specs.List.{copy_within}
use Rattle.std.specs.Prelude.{IfSome, ◌==◌}
use Rattle.std.specs.Io.KnownBytes.{Appends, Consumes, Keeps, IsAtEnd}
use Rattle.std.proofs.KnownBytes.{Appends-nil, Appends-trans}
use Rattle.std.proofs.lemmas.Bool.Decides.{nat_tests}
use Rattle.smi_grant.specs.Record.{Standing, fresh}
use Rattle.smi_commands.specs.declared.answer.Answered.{Answered}
use Rattle.smi_commands.specs.declared.answer.Answered.TheVariants.{Ended, Refused}
use Rattle.smi_commands.specs.Answer.{AnswersWhole, IsDone, pieces, answers, ending}
use Rattle.smi_commands.specs.Keeper.{answer_to}
use Rattle.smi_message.specs.Bad.{refusal_code}
use Rattle.smi_message.specs.declared.Bad.TheVariants as bad
use Rattle.smi_message.specs.declared.DatagramRefusal.{DatagramRefusal}
use Rattle.smi_message.specs.declared.DatagramRefusal.TheVariants as refusal
use Rattle.smi_commands.proofs.Pieces.{pieces_first, pieces_last, pieces_nil}

-- input is what the reader had, left what it still has, piece the beginning of the next piece
pub record Going (input left piece : List ℕ) (r : Standing) (k : ℕ) (w0 w : Option (List ℕ)) : Type 0 where
  pub told : List ℕ
  pub written : Appends w0 w told
  pub answers_are : answers fresh (pieces input) ≡ told ++ answers r (pieces (piece ++ left))
  pub ending_is : ending 0 fresh (pieces input) ≡ ending k r (pieces (piece ++ left))
  pub whole : List ℕ
  pub input_is : input ≡ whole ++ (piece ++ left)
  pub whole_told : (later : List ℕ) → answers fresh (pieces (whole ++ later)) ≡ told ++ answers r (pieces later)

abbrev pub Goes : Option (List ℕ) → Option (List ℕ) → List ℕ → Standing → ℕ → Option (List ℕ) → Option (List ℕ) → Type 0
Goes None b piece r k w0 w = Unit {0}
Goes (Some input) None piece r k w0 w = ⊥
Goes (Some input) (Some left) piece r k w0 w = Going input left piece r k w0 w

pub start : (a w : Option (List ℕ)) → Goes a a [] fresh 0 w w
start None w = tt
start (Some input) w =
    record {
      told = [];
      written = Appends-nil w;
      answers_are = refl;
      ending_is = refl;
      whole = [];
      input_is = refl;
      whole_told = λ later. refl;
    }

pub reads : (a b c : Option (List ℕ)) (piece bs : List ℕ) (r : Standing) (k : ℕ) (w0 w : Option (List ℕ))
    → Goes a b piece r k w0 w → Consumes b c bs → Goes a c (piece ++ bs) r k w0 w
reads None b c piece bs r k w0 w g p = tt
reads (Some i) None c piece bs r k w0 w g p = absurd g
reads (Some i) (Some x) None piece bs r k w0 w g p = absurd p
reads (Some i) (Some x) (Some y) piece bs r k w0 w g p =
    let e : piece ++ x ≡ (piece ++ bs) ++ y = ap (λ (t : List ℕ). piece ++ t) p ∙ sym (append_assoc piece bs y) in
    record {
      told = g.told;
      written = g.written;
      answers_are = g.answers_are ∙ ap (λ (t : List ℕ). g.told ++ answers r (pieces t)) e;
      ending_is = g.ending_is ∙ ap (λ (t : List ℕ). ending k r (pieces t)) e;
      whole = g.whole;
      input_is = g.input_is ∙ ap (λ (t : List ℕ). g.whole ++ t) e;
      whole_told = g.whole_told;
    }

pub keeps : (a b c : Option (List ℕ)) (piece : List ℕ) (r : Standing) (k : ℕ) (w0 w : Option (List ℕ))
    → Goes a b piece r k w0 w → Keeps b c → Goes a c piece r k w0 w
keeps None b c piece r k w0 w g p = tt
keeps (Some i) None c piece r k w0 w g p = absurd g
keeps (Some i) (Some x) None piece r k w0 w g p = absurd p
keeps (Some i) (Some x) (Some y) piece r k w0 w g p = subst (λ (t : List ℕ). Going i t piece r k w0 w) (sym p) g

-- ---- one answer of the definition

answers_ok : (r s : Standing) (p t : List ℕ) (ps : List (List ℕ)) → answer_to r p ≡ Ok (s, t)
    → answers r (p ∷ ps) ≡ t ++ answers s ps
unfolding answers
answers_ok r s p t ps e = rw (e, answers) refl

ending_ok : (k : ℕ) (r s : Standing) (p t : List ℕ) (ps : List (List ℕ)) → answer_to r p ≡ Ok (s, t)
    → ending k r (p ∷ ps) ≡ ending (k + 1) s ps
unfolding ending
ending_ok k r s p t ps e = rw (e, ending) refl

answers_err : (r : Standing) (p : List ℕ) (c : DatagramRefusal) (ps : List (List ℕ)) → answer_to r p ≡ Err c
    → answers r (p ∷ ps) ≡ []
unfolding answers
answers_err r p c ps e = rw (e, answers) refl

ending_err : (k : ℕ) (r : Standing) (p : List ℕ) (c : DatagramRefusal) (ps : List (List ℕ)) → answer_to r p ≡ Err c
    → ending k r (p ∷ ps) ≡ Refused (k + 1) (refusal_code c)
unfolding ending
ending_err k r p c ps e = rw (e, ending) refl

answer_short : (r : Standing) (p : List ℕ) → length p < 44 → answer_to r p ≡ Err (refusal.Bad bad.Length)
unfolding answer_to
answer_short r p h = let no : (length p == 44) ≡ false = grind (arith, nat_tests) in rw (no, answer_to) refl

-- ---- some bytes, and later ones after them

-- from one record on, bytes are answered so by n answers and leave these to answer from the other record on
abbrev pub Leads : Standing → List ℕ → Standing → ℕ → List ℕ → List ℕ → Type 0
Leads r bytes s n left told =
    ((later : List ℕ) → answers r (pieces (bytes ++ later)) ≡ told ++ answers s (pieces (left ++ later)))
    × ((later : List ℕ) (k : ℕ) → ending k r (pieces (bytes ++ later)) ≡ ending (k + n) s (pieces (left ++ later)))

first_of : (left later : List ℕ) → 44 ≤ length left
    → pieces (left ++ later) ≡ take 44 left ∷ pieces (drop 44 left ++ later)
first_of left later h =
    ap (λ (t : List ℕ). pieces (t ++ later)) (sym (take-append-drop 44 left))
    ∙ ap pieces (append_assoc (take 44 left) (drop 44 left) later)
    ∙ pieces_first (take 44 left) (drop 44 left ++ later) (omega (arith, length-take 44 left))

-- one more answer
pub leads_on : (r s u : Standing) (bytes left told t : List ℕ) (n : ℕ) → 44 ≤ length left
    → answer_to s (take 44 left) ≡ Ok (u, t)
    → Leads r bytes s n left told → Leads r bytes u (n + 1) (drop 44 left) (told ++ t)
leads_on r s u bytes left told t n h e l = (
  λ later. l.0 later ∙ ap (λ (x : List ℕ). told ++ x)
      (ap (answers s) (first_of left later h) ∙ answers_ok s u (take 44 left) t (pieces (drop 44 left ++ later)) e)
      ∙ sym (append_assoc told t (answers u (pieces (drop 44 left ++ later)))),
  λ later k. l.1 later k ∙ ap (ending (k + n) s) (first_of left later h)
      ∙ ending_ok (k + n) s u (take 44 left) t (pieces (drop 44 left ++ later)) e
      ∙ ap (λ (m : ℕ). ending m u (pieces (drop 44 left ++ later))) (omega arith),
)

-- whole datagrams are answered so from one record on, and lead to the other
abbrev pub Tells : Standing → List ℕ → Standing → List ℕ → Type 0
Tells r front s told = (later : List ℕ) → answers r (pieces (front ++ later)) ≡ told ++ answers s (pieces later)

-- one more answer
pub tells_on : (r s u : Standing) (front told p t : List ℕ) → length p ≡ 44 → answer_to s p ≡ Ok (u, t)
    → Tells r front s told → Tells r (front ++ p) u (told ++ t)
tells_on r s u front told p t h e l =
    λ later. ap (λ (z : List ℕ). answers r (pieces z)) (append_assoc front p later) ∙ l (p ++ later)
    ∙ ap (λ (x : List ℕ). told ++ x)
    (ap (answers s) (pieces_first p later h) ∙ answers_ok s u p t (pieces later) e)
    ∙ sym (append_assoc told t (answers u (pieces later)))

-- ---- what the code does

-- the answers are written
pub written : (a b : Option (List ℕ)) (piece front left t : List ℕ) (r s : Standing) (k n : ℕ)
    (w0 w v : Option (List ℕ)) → piece ≡ front ++ left → Tells r front s t
    → Goes a b piece r k w0 w → Leads r piece s n left t → Appends w v t → Goes a b left s (k + n) w0 v
written None b piece front left t r s k n w0 w v c f g l q = tt
written (Some i) None piece front left t r s k n w0 w v c f g l q = absurd g
written (Some i) (Some x) piece front left t r s k n w0 w v c f g l q =
    record {
      told = g.told ++ t;
      written = Appends-trans w0 w v g.told t g.written q;
      answers_are = g.answers_are ∙ ap (λ (z : List ℕ). g.told ++ z) (l.0 x)
          ∙ sym (append_assoc g.told t (answers s (pieces (left ++ x))));
      ending_is = g.ending_is ∙ l.1 x k;
      whole = g.whole ++ front;
      input_is = g.input_is ∙ ap (λ (z : List ℕ). g.whole ++ (z ++ x)) c
          ∙ ap (λ (z : List ℕ). g.whole ++ z) (append_assoc front left x)
          ∙ sym (append_assoc g.whole front (left ++ x));
      whole_told = λ later. ap (λ (z : List ℕ). answers fresh (pieces z)) (append_assoc g.whole front later)
          ∙ g.whole_told (front ++ later) ∙ ap (λ (z : List ℕ). g.told ++ z) (f later)
          ∙ sym (append_assoc g.told t (answers s (pieces later)));
    }

abbrev pub Finishes : Option (List ℕ) → Answered → Option (List ℕ) → Option (List ℕ) → Type 0
Finishes a end w0 w =
    IfSome a (λ input. (end ≡ ending 0 fresh (pieces input)) × Appends w0 w (answers fresh (pieces input)))

finish : (input left piece : List ℕ) (r : Standing) (k : ℕ) (w0 w : Option (List ℕ)) (end : Answered)
    (ps : List (List ℕ)) → pieces (piece ++ left) ≡ ps
    → answers r ps ≡ [] → ending k r ps ≡ end → Going input left piece r k w0 w → Finishes (Some input) end w0 w
finish input left piece r k w0 w end ps f x y g =
    let all : answers fresh (pieces input) ≡ g.told = g.answers_are
    ∙ ap (λ (l : List ℕ). g.told ++ l) (ap (answers r) f ∙ x) ∙ append-nil g.told in
    (sym (g.ending_is ∙ ap (ending k r) f ∙ y), subst (Appends w0 w) (sym all) g.written)

pub refused : (a b : Option (List ℕ)) (left : List ℕ) (r : Standing) (k : ℕ) (c : DatagramRefusal)
    (w0 w : Option (List ℕ)) → 44 ≤ length left → answer_to r (take 44 left) ≡ Err c
    → Goes a b left r k w0 w → Finishes a (Refused (k + 1) (refusal_code c)) w0 w
refused None b left r k c w0 w h e g = tt
refused (Some i) None left r k c w0 w h e g = absurd g
refused (Some i) (Some x) left r k c w0 w h e g =
    let others = pieces (drop 44 left ++ x) in
    finish i x left r k w0 w (Refused (k + 1) (refusal_code c)) (take 44 left ∷ others) (first_of left x h)
    (answers_err r (take 44 left) c others e) (ending_err k r (take 44 left) c others e) g

pub short : (a b : Option (List ℕ)) (piece : List ℕ) (r : Standing) (k : ℕ) (w0 w : Option (List ℕ))
    → 0 < length piece → length piece < 44
    → IsAtEnd b → Goes a b piece r k w0 w → Finishes a (Refused (k + 1) 1) w0 w
short None b piece r k w0 w l h e g = tt
short (Some i) None piece r k w0 w l h e g = absurd g
short (Some i) (Some x) piece r k w0 w l h e g =
    let last : pieces (piece ++ x) ≡ piece ∷ [] = ap (λ (t : List ℕ). pieces (piece ++ t)) e
    ∙ ap pieces (append-nil piece) ∙ pieces_last piece l (omega arith) in
    finish i x piece r k w0 w (Refused (k + 1) 1) (piece ∷ []) last
    (answers_err r piece (refusal.Bad bad.Length) [] (answer_short r piece h))
    (ending_err k r piece (refusal.Bad bad.Length) [] (answer_short r piece h)) g

answers_nil : (r : Standing) → answers r [] ≡ []
unfolding answers
answers_nil r = refl

ending_nil : (k : ℕ) (r : Standing) → ending k r [] ≡ Ended
unfolding ending
ending_nil k r = refl

pub ended_here : (a b : Option (List ℕ)) (r : Standing) (k : ℕ) (w0 w : Option (List ℕ)) → IsAtEnd b
    → Goes a b [] r k w0 w → Finishes a Ended w0 w
ended_here None b r k w0 w e g = tt
ended_here (Some i) None r k w0 w e g = absurd g
ended_here (Some i) (Some x) r k w0 w e g =
    finish i x [] r k w0 w Ended [] (ap pieces e ∙ pieces_nil) (answers_nil r) (ending_nil k r) g

-- ---- a front of the answers

abbrev pub HasFront : Option (List ℕ) → Option (List ℕ) → Option (List ℕ) → Type 0
HasFront a w0 w =
    IfSome a (λ input. (front rest : List ℕ) × (answers fresh (pieces input) ≡ front ++ rest) × Appends w0 w front)

pub has_front : (a b : Option (List ℕ)) (piece : List ℕ) (r : Standing) (k : ℕ) (w0 w : Option (List ℕ))
    → Goes a b piece r k w0 w → HasFront a w0 w
has_front None b piece r k w0 w g = tt
has_front (Some i) None piece r k w0 w g = absurd g
has_front (Some i) (Some x) piece r k w0 w g = (g.told, answers r (pieces (piece ++ x)), g.answers_are, g.written)

-- where reading ends here, what was read is answered up to the last whole datagram
pub ends_here : (P : Type 0) (a b : Option (List ℕ)) (piece : List ℕ) (r : Standing) (k : ℕ)
    (w0 w : Option (List ℕ)) → length piece < 44 → Goes a b piece r k w0 w
    → IfSome a (λ input. P → IfSome b (λ left. AnswersWhole input left w0 w))
ends_here P None b piece r k w0 w h g = tt
ends_here P (Some i) None piece r k w0 w h g = absurd g
ends_here P (Some i) (Some x) piece r k w0 w h g =
    let all : answers fresh (pieces g.whole) ≡ g.told =
    ap (λ (z : List ℕ). answers fresh (pieces z)) (sym (append-nil g.whole)) ∙ g.whole_told []
    ∙ ap (λ (z : List ℕ). g.told ++ z) (ap (answers r) pieces_nil ∙ answers_nil r) ∙ append-nil g.told in
    λ _. record {
      whole = g.whole;
      rest = piece;
      read = g.input_is;
      short = h;
      written = subst (Appends w0 w) (sym all) g.written;
    }

-- some bytes of the next answers have been written
pub front_more : (a b : Option (List ℕ)) (piece left t : List ℕ) (m : ℕ) (r s : Standing) (k n : ℕ)
    (w0 w v : Option (List ℕ))
    → Goes a b piece r k w0 w → Leads r piece s n left t → Appends w v (take m t) → HasFront a w0 v
front_more None b piece left t m r s k n w0 w v g l q = tt
front_more (Some i) None piece left t m r s k n w0 w v g l q = absurd g
front_more (Some i) (Some x) piece left t m r s k n w0 w v g l q =
    let others = answers s (pieces (left ++ x)) in
    let next : answers r (pieces (piece ++ x)) ≡ take m t ++ (drop m t ++ others) =
    l.0 x ∙ ap (λ (z : List ℕ). z ++ others) (sym (take-append-drop m t))
    ∙ append_assoc (take m t) (drop m t) others in (
      g.told ++ take m t,
      drop m t ++ others,
      g.answers_are ∙ ap (λ (z : List ℕ). g.told ++ z) next
          ∙ sym (append_assoc g.told (take m t) (drop m t ++ others)),
      Appends-trans w0 w v g.told (take m t) g.written q,
    )

-- ---- after a read into the piece from a place on

filled : (at n : ℕ) (piece q post : List ℕ) → at ≤ length piece → n ≤ length q
    → take (at + n) (take at piece ++ (q ++ post)) ≡ take at piece ++ take n q
filled at n piece q post h l =
    let same : length (take at piece) ≡ at = omega (arith, length-take at piece) in
    ap (λ (k : ℕ). take (k + n) (take at piece ++ (q ++ post))) (sym same)
    ∙ take-append-add (take at piece) (q ++ post) n
    ∙ ap (λ (t : List ℕ). take at piece ++ t) (take-append-le n q post l)

pub read_some : (a b c : Option (List ℕ)) (at n : ℕ) (piece q post : List ℕ) (r : Standing) (k : ℕ)
    (w0 w : Option (List ℕ)) → at ≤ length piece → n ≤ length q
    → Goes a b (take at piece) r k w0 w → Consumes b c (take n q)
    → Goes a c (take (at + n) (take at piece ++ (q ++ post))) r k w0 w
read_some a b c at n piece q post r k w0 w h l g p =
    subst (λ (t : List ℕ). Goes a c t r k w0 w) (sym (filled at n piece q post h l))
    (reads a b c (take at piece) (take n q) r k w0 w g p)

pub read_none : (a b c : Option (List ℕ)) (n : ℕ) (piece q : List ℕ) (r : Standing) (k : ℕ) (w0 w : Option (List ℕ))
    → n ≡ 0
    → Goes a b piece r k w0 w → Consumes b c (take n q) → Goes a c piece r k w0 w
read_none a b c n piece q r k w0 w z g p =
    subst (λ (t : List ℕ). Goes a c t r k w0 w) (ap (λ (m : ℕ). piece ++ take m q) z ∙ append-nil piece)
    (reads a b c piece (take n q) r k w0 w g p)

-- what the contract asks if it is done
pub done_of : (a : Option (List ℕ)) (end : Answered) (w0 w : Option (List ℕ)) → Finishes a end w0 w
    → IfSome a (λ input. IsDone end → (end ≡ ending 0 fresh (pieces input))
    × Appends w0 w (answers fresh (pieces input)))
done_of None end w0 w f = tt
done_of (Some i) end w0 w f = λ d. f

-- a failed read leaves the beginning of the block
pub read_failed : (a b c : Option (List ℕ)) (at : ℕ) (block q post : List ℕ) (r : Standing) (k : ℕ)
    (w0 w : Option (List ℕ)) → at ≤ length block
    → Goes a b (take at block) r k w0 w → Keeps b c → Goes a c (take at (take at block ++ (q ++ post))) r k w0 w
read_failed a b c at block q post r k w0 w h g p =
    let same : length (take at block) ≡ at = omega (arith, length-take at block) in
    subst (λ (t : List ℕ). Goes a c t r k w0 w) (sym (take_at (take at block) (q ++ post) at same))
    (keeps a b c (take at block) r k w0 w g p)

-- the block after a read after its first bytes
abbrev pub after : ℕ → List ℕ → List ℕ → List ℕ
after at block q = take at block ++ (q ++ drop (65536 - at) (drop at block))

-- a read into the block leaves it as long as it was
pub block_long : (at : ℕ) (block q : List ℕ) → length block ≡ 65536 → at ≤ 65536
    → length q ≡ length (take (65536 - at) (drop at block))
    → length (take at block ++ (q ++ drop (65536 - at) (drop at block))) ≡ 65536
block_long at block q l h e =
    let rest = drop (65536 - at) (drop at block) in
    omega (
      arith,
      length-append (take at block) (q ++ rest),
      length-append q rest,
      length-take at block,
      length-take (65536 - at) (drop at block),
      length-drop (65536 - at) (drop at block),
      length-drop at block,
    )

-- what is left is moved to the beginning
pub moved : (f at : ℕ) (block later : List ℕ) → f ≤ at → at ≤ length block → later ≡ copy_within block f at 0
    → take (at - f) later ≡ drop f (take at block)
moved f at block later h l e =
    let some : f + (at - f) ≡ at = omega arith in
    let left = take (at - f) (drop f block) in
    let size : length left ≡ at - f = omega (arith, length-take (at - f) (drop f block), length-drop f block) in
    ap (take (at - f)) e ∙ take_at left (drop (0 + (at - f)) block) (at - f) size ∙ sym (drop-take f (at - f) block)
    ∙ ap (λ (n : ℕ). drop f (take n block)) some
