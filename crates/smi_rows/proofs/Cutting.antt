-- Link by link.
use Rattle.std.proofs.Common.{◌≡◌, ℕ, suc, ◌+◌, ◌-◌, ◌<◌, ◌≤◌, Bool, true, false, List, [], ◌∷◌, ◌++◌, length, take}
use Rattle.std.proofs.Common.{drop, Option, Some, None, refl, sym, ap, ◌∙◌, append_assoc, arith}
use Rattle.std.specs.Prelude.{◌&&◌, nat_le, if◌then◌else◌, option_map, option_and_then}
use Rattle.std.proofs.lemmas.List.{take_all, length-drop}
use Rattle.std.proofs.lemmas.Bool.{and_parts, leb-true, le-leb}
use Rattle.smi_rows.specs.declared.row.StoredLink.{StoredLink}
use Rattle.smi_rows.specs.declared.schema.Schema.{Schema}
use Rattle.smi_grant.specs.declared.Command.{Command}
use Rattle.smi_rows.specs.Reading.{size_at, are_cut, command_at, commands_at, others_at, only_at, several_at, link_at}
use Rattle.smi_rows.specs.Reading.{links_at, standing_at, kept_domain, domain_at}
use Rattle.smi_base.specs.Bytes.{u16_at}
use Rattle.smi_grant.specs.Record.{Standing}

-- the rest of a list, as a range gives it
pub rest-is : (size : ℕ) (b : List ℕ) → take (length b - size) (drop size b) ≡ drop size b
rest-is size b = take_all (length b - size) (drop size b) (omega (arith, length-drop size b))

pub record Takes (s : Schema) (b : List ℕ) (n : ℕ) : Type 0 where
  pub size : n ≡ size_at s b
  pub fits : nat_le (size_at s b) (length b) ≡ true

takes : (s : Schema) (b : List ℕ) (size : ℕ) (t : Bool) → nat_le (size_at s b) (length b) ≡ t
    → Some size ≡ (if t then Some (size_at s b) else None) → Takes s b size
takes s b size true is e = record { size = cc; fits = is }
takes s b size false is e = absurd cc

-- the size of a link that is there whole
pub takes-size : (s : Schema) (b : List ℕ) (size : ℕ)
    → Some size ≡ (if nat_le (size_at s b) (length b) then Some (size_at s b) else None) → Takes s b size
takes-size s b size e = takes s b size (nat_le (size_at s b) (length b)) refl e

pub cut-link : (s : Schema) (n i : ℕ) (b : List ℕ) (size : ℕ) → i < n
    → Some size ≡ (if nat_le (size_at s b) (length b) then Some (size_at s b) else None) →
    are_cut s (n - (i + 1)) (take (length b - size) (drop size b)) ≡ are_cut s (n - i) b
cut-link s n i b size below e =
    let t = takes-size s b size e in
    let k : n - i ≡ suc (n - (i + 1)) = omega arith in
    let whole : are_cut s (suc (n - (i + 1))) b
    ≡ are_cut s (n - (i + 1)) (drop (size_at s b) b) =
    ap (λ v. v && are_cut s (n - (i + 1)) (drop (size_at s b) b)) t.fits in
    ap (are_cut s (n - (i + 1))) (rest-is size b) ∙ ap (λ z. are_cut s (n - (i + 1)) (drop z b)) t.size ∙ sym whole
    ∙ ap (λ m. are_cut s m b) (sym k)

lacks : (s : Schema) (b : List ℕ) (t : Bool)
    → (let a : Option ℕ = None in a) ≡ (if t then Some (size_at s b) else None) → t ≡ false
lacks s b true e = absurd cc
lacks s b false e = refl

pub cut-none : (s : Schema) (n i : ℕ) (b : List ℕ) → i < n
    → (let a : Option ℕ = None in a) ≡ (if nat_le (size_at s b) (length b) then Some (size_at s b) else None) →
    are_cut s (n - i) b ≡ false
cut-none s n i b below e =
    let k : n - i ≡ suc (n - (i + 1)) = omega arith in
    ap (λ m. are_cut s m b) k ∙ ap (λ v. v && are_cut s (n - (i + 1)) (drop (size_at s b) b)) (lacks s b _ e)

-- ---- command by command

behind : (p : List Command) (c : Command) (o : Option (List Command))
    → option_map (λ more. (p ++ c ∷ []) ++ more) o ≡ option_map (λ more. p ++ more) (option_map (λ more. c ∷ more) o)
behind p c None = refl
behind p c (Some more) = ap (λ xs. Some xs) (append_assoc p (c ∷ []) more)

pub one-more : (p q : List Command) (n i : ℕ) (b : List ℕ) (c : Command) → i < n → q ≡ p ++ c ∷ []
    → Some c ≡ command_at b →
    option_map (λ more. q ++ more) (commands_at (n - (i + 1)) (take (length b - 4) (drop 4 b)))
    ≡ option_map (λ more. p ++ more) (commands_at (n - i) b)
one-more p q n i b c below pushed e =
    let k : n - i ≡ suc (n - (i + 1)) = omega arith in
    let left = commands_at (n - (i + 1)) (drop 4 b) in
    ap (λ r. option_map (λ more. q ++ more) (commands_at (n - (i + 1)) r)) (rest-is 4 b)
    ∙ ap (λ r. option_map (λ more. r ++ more) left) pushed
    ∙ behind p c left
    ∙ ap (λ o. option_map (λ more. p ++ more) (option_and_then (λ d. option_map (λ more. d ∷ more) left) o)) e
    ∙ ap (λ m. option_map (λ more. p ++ more) (commands_at m b)) (sym k)

pub none-more : (p : List Command) (n i : ℕ) (b : List ℕ) → i < n
    → (let a : Option Command = None in a) ≡ command_at b →
    (let a : Option (List Command) = None in a) ≡ option_map (λ more. p ++ more) (commands_at (n - i) b)
none-more p n i b below e =
    let k : n - i ≡ suc (n - (i + 1)) = omega arith in
    ap (λ o. option_map (λ more. p ++ more) (option_and_then
    (λ d. option_map (λ more. d ∷ more) (commands_at (n - (i + 1)) (drop 4 b))) o)) e
    ∙ ap (λ m. option_map (λ more. p ++ more) (commands_at m b)) (sym k)

pub several-is : (b : List ℕ) (oldest : List Command) (others : ℕ) → others ≡ others_at b → others ≤ 7
    → Some oldest ≡ only_at b →
    option_map (λ more. oldest ++ more) (commands_at others (take (length b - 22) (drop 22 b))) ≡ several_at b
several-is b oldest others same few e =
    let small : nat_le (others_at b) 7 ≡ true = ap (λ n. nat_le n 7) (sym same) ∙ le-leb others 7 few in
    let whole : several_at b ≡ option_and_then
    (λ first. option_map (λ more. first ++ more) (commands_at (others_at b) (drop 22 b))) (only_at b) =
    ap (λ (t : Bool). if t then option_and_then
    (λ first. option_map (λ more. first ++ more) (commands_at (others_at b) (drop 22 b))) (only_at b) else None)
    small in
    ap (λ r. option_map (λ more. oldest ++ more) (commands_at others r)) (rest-is 22 b)
    ∙ ap (λ n. option_map (λ more. oldest ++ more) (commands_at n (drop 22 b))) same
    ∙ ap (option_and_then (λ first. option_map (λ more. first ++ more) (commands_at (others_at b) (drop 22 b)))) e
    ∙ sym whole

-- ---- link by link, what they say

record Cut (s : Schema) (m : ℕ) (b : List ℕ) : Type 0 where
  pub whole : size_at s b ≤ length b
  pub rest : are_cut s m (drop (size_at s b) b) ≡ true

cut-parts : (s : Schema) (n i : ℕ) (b : List ℕ) → i < n → are_cut s (n - i) b ≡ true → Cut s (n - (i + 1)) b
cut-parts s n i b below h =
    let k : n - i ≡ suc (n - (i + 1)) = omega arith in
    let t : are_cut s (suc (n - (i + 1))) b ≡ true = ap (λ m. are_cut s m b) (sym k) ∙ h in
    let p = and_parts (nat_le (size_at s b) (length b)) _ t in
    record { whole = leb-true _ _ p.0; rest = p.1 }

pub cut-whole : (s : Schema) (n i : ℕ) (b : List ℕ) → i < n → are_cut s (n - i) b ≡ true → size_at s b ≤ length b
cut-whole s n i b below h = (cut-parts s n i b below h).whole

pub cut-rest : (s : Schema) (n i : ℕ) (b : List ℕ) (size : ℕ) → i < n → size ≡ size_at s b
    → are_cut s (n - i) b ≡ true →
    are_cut s (n - (i + 1)) (take (length b - size) (drop size b)) ≡ true
cut-rest s n i b size below same h =
    ap (are_cut s (n - (i + 1))) (rest-is size b) ∙ ap (λ z. are_cut s (n - (i + 1)) (drop z b)) same
    ∙ (cut-parts s n i b below h).rest

follows : (p : List StoredLink) (x : StoredLink) (o : Option (List StoredLink))
    → option_map (λ more. (p ++ x ∷ []) ++ more) o ≡ option_map (λ more. p ++ more) (option_map (λ more. x ∷ more) o)
follows p x None = refl
follows p x (Some more) = ap (λ xs. Some xs) (append_assoc p (x ∷ []) more)

pub one-link : (s : Schema) (p q : List StoredLink) (n i : ℕ) (b : List ℕ) (size : ℕ) (x : StoredLink) → i < n
    → size ≡ size_at s b → q ≡ p ++ x ∷ [] → Some x ≡ link_at s b →
    option_map (λ more. q ++ more) (links_at s (n - (i + 1)) (take (length b - size) (drop size b)))
    ≡ option_map (λ more. p ++ more) (links_at s (n - i) b)
one-link s p q n i b size x below same pushed e =
    let k : n - i ≡ suc (n - (i + 1)) = omega arith in
    let left = links_at s (n - (i + 1)) (drop (size_at s b) b) in
    ap (λ r. option_map (λ more. q ++ more) (links_at s (n - (i + 1)) r)) (rest-is size b)
    ∙ ap (λ z. option_map (λ more. q ++ more) (links_at s (n - (i + 1)) (drop z b))) same
    ∙ ap (λ r. option_map (λ more. r ++ more) left) pushed
    ∙ follows p x left
    ∙ ap (λ o. option_map (λ more. p ++ more) (option_and_then (λ y. option_map (λ more. y ∷ more) left) o)) e
    ∙ ap (λ m. option_map (λ more. p ++ more) (links_at s m b)) (sym k)

pub no-link : (s : Schema) (p : List StoredLink) (n i : ℕ) (b : List ℕ) → i < n
    → (let a : Option StoredLink = None in a) ≡ link_at s b →
    option_map (λ more. p ++ more) (links_at s (n - i) b) ≡ None
no-link s p n i b below e =
    let k : n - i ≡ suc (n - (i + 1)) = omega arith in
    ap (λ m. option_map (λ more. p ++ more) (links_at s m b)) k
    ∙ ap (λ o. option_map (λ more. p ++ more) (option_and_then
    (λ y. option_map (λ more. y ∷ more) (links_at s (n - (i + 1)) (drop (size_at s b) b))) o)) (sym e)

-- a domain's row, from its parts
pub domain-is : (s : Schema) (b : List ℕ) (r : Standing) (gathered count : ℕ) (links : List StoredLink)
    → standing_at b ≡ Some r → gathered ≡ u16_at b 20 → count ≡ u16_at b 22 →
    links_at s count (take (length b - 24) (drop 24 b)) ≡ Some links
    → domain_at s b ≡ Some (kept_domain r gathered links)
domain-is s b r gathered count links stands g n e =
    let all : links_at s (u16_at b 22) (drop 24 b) ≡ Some links = ap (λ m. links_at s m (drop 24 b)) (sym n)
    ∙ ap (links_at s count) (sym (rest-is 24 b)) ∙ e in
    ap (option_and_then (λ d. option_map (kept_domain d (u16_at b 20)) (links_at s (u16_at b 22) (drop 24 b)))) stands
    ∙ ap (option_map (kept_domain r (u16_at b 20))) all
    ∙ ap (λ m. Some (kept_domain r m links)) (sym g)
