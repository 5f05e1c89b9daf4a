-- What is written is read again.
use Rattle.std.proofs.Common.{◌≡◌, ℕ, suc, ◌+◌, ◌*◌, ◌<◌, ◌≤◌, ◌^◌, Bool, true, List, [], ◌∷◌, ◌++◌, length, drop}
use Rattle.std.proofs.Common.{Some, None, refl, ap, ◌∙◌, arith, length-append, append_assoc}
use Rattle.std.specs.Prelude.{nat_le, nat_lt, if◌then◌else◌, option_map, option_and_then}
use Rattle.std.specs.Int.{w16, to_be_bytes}
use Rattle.std.proofs.lemmas.Bool.{and_parts, and_from, leb-true, le-leb, lt-ltb, ltb-true}
use Rattle.std.proofs.lemmas.Bool.Decides.{nat_tests}
use Rattle.std.proofs.lemmas.Nat.{from_be_bytes-to_be_bytes_2, from_be_bytes-to_be_bytes_4}
use Rattle.std.proofs.lemmas.Nat.{from_be_bytes-to_be_bytes_8}
use Rattle.smi_base.specs.declared.trees.TheConstants.{MOST_DOMAINS}
use Rattle.smi_grant.specs.declared.Command.{Command}
use Rattle.smi_grant.specs.declared.Command.TheVariants.{Do, Include, Exclude, Manual, Ignore}
use Rattle.smi_grant.specs.Command as command
use Rattle.smi_grant.specs.Command.{verb_of, argument_of, command_of}
use Rattle.smi_grant.specs.Record.{last_epoch, last_number}
use Rattle.smi_command.specs.declared.Link.{Link}
use Rattle.smi_command.specs.declared.Link.TheVariants.{Out, Taking, Held, Dropping}
use Rattle.smi_rows.specs.declared.mode.Mode.{Mode}
use Rattle.smi_rows.specs.declared.mode.Mode.TheVariants as mode
use Rattle.smi_rows.specs.declared.row.StoredLink.{StoredLink}
use Rattle.smi_rows.specs.declared.schema.Schema.{Schema}
use Rattle.smi_rows.specs.Layout.{command_bytes, commands_bytes, front_bytes, no_command, link_bytes, links_bytes}
use Rattle.smi_base.specs.Bytes.{u16_at, u32_at}
use Rattle.smi_base.specs.Between.{is_between}
use Rattle.smi_rows.specs.Ranges.{is_grant_epoch, is_command_in, each_command_in, is_grant_in, is_link_in}
use Rattle.smi_rows.specs.Ranges.{each_link_in, rises_above}
use Rattle.smi_rows.specs.Reading.{has_lists, size_at, are_cut, command_at, commands_at, only_at, others_at}
use Rattle.smi_rows.specs.Reading.{several_at, held_at, grant_at, link_at, links_at}
use Rattle.smi_rows.specs.Schema.{most_pending_in}
use Rattle.smi_rows.specs.Stored.{mode_number, mode_of, stored}

-- ---- commands

command_of-again : (c : Command) → command_of (verb_of c) (argument_of c) ≡ Some c
command_of-again (Do a) = refl
command_of-again (Include t) = refl
command_of-again (Exclude t) = refl
command_of-again (Manual t) = refl
command_of-again (Ignore t) = refl

verb_small : (c : Command) → verb_of c < 2 ^ 16
verb_small (Do a) = omega arith
verb_small (Include t) = omega arith
verb_small (Exclude t) = omega arith
verb_small (Manual t) = omega arith
verb_small (Ignore t) = omega arith

argument_small : (c : Command) → command.is_in_range c ≡ true → argument_of c < 2 ^ 16
argument_small (Do a) h = grind (arith, nat_tests)
argument_small (Include t) h = grind (arith, nat_tests)
argument_small (Exclude t) h = grind (arith, nat_tests)
argument_small (Manual t) h = grind (arith, nat_tests)
argument_small (Ignore t) h = grind (arith, nat_tests)

command-again : (s : Schema) (c : Command) (more : List ℕ) → is_command_in s c ≡ true
    → command_at (command_bytes c ++ more) ≡ Some c
command-again s c more h =
    let p = and_parts (command.is_in_range c) _ h in
    rw (
      from_be_bytes-to_be_bytes_2 (verb_of c) (verb_small c),
      from_be_bytes-to_be_bytes_2 (argument_of c) (argument_small c p.0),
    ) (command_of-again c)

commands-again : (s : Schema) (p : List Command) (more : List ℕ) → each_command_in s p ≡ true
    → commands_at (length p) (commands_bytes p ++ more) ≡ Some p
commands-again s [] more h = refl
commands-again s (c ∷ p) more h =
    let a = and_parts (is_command_in s c) _ h in
    let b : commands_bytes (c ∷ p) ++ more ≡ command_bytes c
    ++ (commands_bytes p ++ more) = append_assoc (command_bytes c) (commands_bytes p) more in
    ap (commands_at (suc (length p))) b
    ∙ ap (option_and_then (λ d. option_map (λ rest. d ∷ rest) (commands_at (length p) (commands_bytes p ++ more))))
    (command-again s c (commands_bytes p ++ more) a.0)
    ∙ ap (option_map (λ rest. c ∷ rest)) (commands-again s p more a.1)

commands-length : (p : List Command) → length (commands_bytes p) ≡ 4 * length p
commands-length [] = refl
commands-length (c ∷ p) = let l = length-append (command_bytes c) (commands_bytes p) in omega (arith, commands-length p)

-- ---- links

mode-again : (m : Mode) → mode_of (mode_number m) ≡ Some m
mode-again mode.Included = refl
mode-again mode.Manual = refl
mode-again mode.Ignored = refl

record Small (d e n : ℕ) : Type 0 where
  domain : d < 2 ^ 16
  epoch : e < 2 ^ 64
  number : n < 2 ^ 32

-- what is read of a link's first sixteen bytes
with-front : (s : Schema) (d form e n : ℕ) (m : Mode) (l : Link) (rest : List ℕ) → Small d e n →
    grant_at s (front_bytes d form m e n ++ rest) ≡ Some l
    → link_at s (front_bytes d form m e n ++ rest) ≡ Some (stored d l m)
with-front s d form e n m l rest w g =
    ap (option_and_then (λ o. option_map (λ k. stored (u16_at (front_bytes d form m e n ++ rest) 0) k o)
    (grant_at s (front_bytes d form m e n ++ rest)))) (mode-again m)
    ∙ ap (option_map (λ k. stored (u16_at (front_bytes d form m e n ++ rest) 0) k m)) g
    ∙ ap (λ i. Some (stored i l m)) (from_be_bytes-to_be_bytes_2 d w.domain)

-- a link's bytes, before others, have their length and say it
pub record Stands (s : Schema) (x : StoredLink) (more : List ℕ) : Type 0 where
  pub size : size_at s (link_bytes x ++ more) ≡ length (link_bytes x)
  pub read : link_at s (link_bytes x ++ more) ≡ Some x

epoch_small : (e : ℕ) → is_grant_epoch e ≡ true → e < 2 ^ 64
epoch_small e h = let p = and_parts (nat_le e last_epoch) _ h in let l : e ≤ last_epoch = leb-true _ _ p.0 in
    omega arith

out-stands : (s : Schema) (d k : ℕ) (m : Mode) (more : List ℕ) → d < 2 ^ 16 → k < 2 ^ 64
    → Stands s (stored d (Out k) m) more
out-stands s d k m more w e = record {
  size = refl;
  read = with-front s d 0 k 0 m (Out k) (no_command ++ more) (record { domain = w; epoch = e; number = omega arith })
      (ap (λ i. Some (Out i)) (from_be_bytes-to_be_bytes_8 k e));
}

taking-stands : (s : Schema) (d k : ℕ) (m : Mode) (more : List ℕ) → d < 2 ^ 16 → k < 2 ^ 64
    → Stands s (stored d (Taking k) m) more
taking-stands s d k m more w e = record {
  size = refl;
  read = with-front s d 1 k 0 m (Taking k) (no_command ++ more)
      (record { domain = w; epoch = e; number = omega arith })
      (ap (λ i. Some (Taking i)) (from_be_bytes-to_be_bytes_8 k e));
}

dropping-stands : (s : Schema) (d k : ℕ) (m : Mode) (more : List ℕ) → d < 2 ^ 16 → k < 2 ^ 64
    → Stands s (stored d (Dropping k) m) more
dropping-stands s d k m more w e = record {
  size = refl;
  read = with-front s d 4 k 0 m (Dropping k) (no_command ++ more)
      (record { domain = w; epoch = e; number = omega arith })
      (ap (λ i. Some (Dropping i)) (from_be_bytes-to_be_bytes_8 k e));
}

held-front : (d form e n : ℕ) (m : Mode) (rest : List ℕ) (p : List Command) → Small d e n
    → held_at (front_bytes d form m e n ++ rest) p ≡ Held e n p
held-front d form e n m rest p w =
    ap (λ i. Held i (u32_at (front_bytes d form m e n ++ rest) 12) p) (from_be_bytes-to_be_bytes_8 e w.epoch)
    ∙ ap (λ i. Held e i p) (from_be_bytes-to_be_bytes_4 n w.number)

held-stands : (s : Schema) (d e n : ℕ) (m : Mode) (p : List Command) (more : List ℕ) → Small d e n
    → nat_le (length p) (most_pending_in s) ≡ true → most_pending_in s ≤ 8 → each_command_in s p ≡ true →
    Stands s (stored d (Held e n p) m) more
held-stands s d e n m [] more w few eight h = record {
  size = refl;
  read = with-front s d 2 e n m (Held e n []) (no_command ++ more) w
      (ap (λ l. Some l) (held-front d 2 e n m (no_command ++ more) [] w));
}
held-stands s d e n m (c ∷ []) more w few eight h =
    let a = and_parts (is_command_in s c) _ h in
    let b = front_bytes d 3 m e n ++ (command_bytes c ++ more) in
    record {
      size = refl;
      read = with-front s d 3 e n m (Held e n (c ∷ [])) (command_bytes c ++ more) w
          (ap (λ o. option_map (held_at b) (option_map (λ k. k ∷ []) o)) (command-again s c more a.0)
          ∙ ap (λ l. Some l) (held-front d 3 e n m (command_bytes c ++ more) (c ∷ []) w));
    }
held-stands s d e n m (c ∷ next ∷ others) more w few eight h =
    let p = next ∷ others in
    let a = and_parts (is_command_in s c) _ h in
    let b = link_bytes (stored d (Held e n (c ∷ p)) m) ++ more in
    let all : length (c ∷ p) ≤ most_pending_in s = leb-true _ _ few in
    let several : 1 < most_pending_in s = omega arith in
    let small : length p ≤ 7 = omega arith in
    let lists : has_lists s ≡ true = lt-ltb 1 (most_pending_in s) several in
    let counted : others_at b ≡ length p = from_be_bytes-to_be_bytes_2 (length p) (omega arith) in
    let oldest : only_at b ≡ Some (c ∷ []) = ap (option_map (λ k. k ∷ []))
    (command-again s c (to_be_bytes w16 (length p) ++ (commands_bytes p ++ more)) a.0) in
    let behind : commands_at (others_at b) (drop 22 b)
    ≡ Some p = ap (λ i. commands_at i (commands_bytes p ++ more)) counted ∙ commands-again s p more a.1 in
    let within : nat_le (others_at b) 7 ≡ true = ap (λ i. nat_le i 7) counted ∙ le-leb (length p) 7 small in
    let list : several_at b ≡ Some (c ∷ p) =
    ap (λ (t : Bool). if t then option_and_then
    (λ first. option_map (λ rest. first ++ rest) (commands_at (others_at b) (drop 22 b))) (only_at b) else None)
    within
    ∙ ap (option_and_then (λ first. option_map (λ rest. first ++ rest) (commands_at (others_at b) (drop 22 b)))) oldest
    ∙ ap (option_map (λ rest. (c ∷ []) ++ rest)) behind in
    let grant : grant_at s b ≡ Some (Held e n (c ∷ p)) =
    ap (λ (t : Bool). if t then option_map (held_at b) (several_at b) else None) lists
    ∙ ap (option_map (held_at b)) list
    ∙ ap (λ l. Some l)
    (held-front d 5 e n m (command_bytes c ++ (to_be_bytes w16 (length p) ++ (commands_bytes p ++ more))) (c ∷ p)
    w) in
    let long = length-append (front_bytes d 5 m e n ++ command_bytes c ++ to_be_bytes w16 (length p))
    (commands_bytes p) in
    record {
      size = ap (λ (t : Bool). if t then 22 + 4 * others_at b else 20) lists ∙ ap (λ i. 22 + 4 * i) counted
          ∙ omega (arith, long, commands-length p);
      read = with-front s d 5 e n m (Held e n (c ∷ p))
          (command_bytes c ++ (to_be_bytes w16 (length p) ++ (commands_bytes p ++ more))) w grant;
    }

most_eight : (s : Schema) → most_pending_in s ≤ 8
most_eight s = grind (arith, nat_tests)

link-stands : (s : Schema) (d : ℕ) (l : Link) (m : Mode) (more : List ℕ) → is_link_in s (stored d l m) ≡ true
    → Stands s (stored d l m) more
link-stands s d l m more h =
    let a = and_parts (is_between 1 MOST_DOMAINS d) _ h in
    let b = and_parts (is_grant_in s l) _ a.1 in
    let small : d ≤ MOST_DOMAINS = leb-true _ _ (and_parts (nat_le 1 d) _ a.0).1 in
    by_form l (omega arith) b.0
  where
    by_form : (l : Link) → d < 2 ^ 16 → is_grant_in s l ≡ true → Stands s (stored d l m) more
    by_form (Out k) w g = let e : k ≤ last_epoch = leb-true _ _ (and_parts (nat_le 1 k) _ g).1 in
        out-stands s d k m more w (omega arith)
    by_form (Taking k) w g = let e : k ≤ last_epoch = leb-true _ _ g in taking-stands s d k m more w (omega arith)
    by_form (Dropping k) w g = dropping-stands s d k m more w (epoch_small k g)
    by_form (Held e n p) w g =
        let a = and_parts (is_grant_epoch e) _ g in
        let b = and_parts (nat_le n last_number) _ a.1 in
        let c = and_parts (nat_le (length p) n) _ b.1 in
        let f = and_parts (nat_le (length p) (most_pending_in s)) _ c.1 in
        let number : n ≤ last_number = leb-true _ _ b.0 in
        held-stands s d e n m p more (record { domain = w; epoch = epoch_small e a.0; number = omega arith }) f.0
        (most_eight s) f.1

-- ---- many links

drop-front : (a b : List ℕ) → drop (length a) (a ++ b) ≡ b
drop-front [] b = refl
drop-front (x ∷ a) b = drop-front a b

-- what is after the first link
behind-link : (s : Schema) (x : StoredLink) (more : List ℕ) → Stands s x more
    → drop (size_at s (link_bytes x ++ more)) (link_bytes x ++ more) ≡ more
behind-link s x more t = ap (λ i. drop i (link_bytes x ++ more)) t.size ∙ drop-front (link_bytes x) more

pub links-cut : (s : Schema) (xs : List StoredLink) → each_link_in s xs ≡ true
    → are_cut s (length xs) (links_bytes xs) ≡ true
links-cut s [] h = refl
links-cut s (x ∷ xs) h =
    let a = and_parts (is_link_in s x) _ h in
    let t = link-stands s x.domain x.link x.mode (links_bytes xs) a.0 in
    let b = link_bytes x ++ links_bytes xs in
    let long = length-append (link_bytes x) (links_bytes xs) in
    let fits : size_at s b ≤ length b = omega (arith, t.size) in
    and_from _ _ (le-leb (size_at s b) (length b) fits)
    (ap (are_cut s (length xs)) (behind-link s x (links_bytes xs) t) ∙ links-cut s xs a.1)

pub links-again : (s : Schema) (xs : List StoredLink) → each_link_in s xs ≡ true
    → links_at s (length xs) (links_bytes xs) ≡ Some xs
links-again s [] h = refl
links-again s (x ∷ xs) h =
    let a = and_parts (is_link_in s x) _ h in
    let t = link-stands s x.domain x.link x.mode (links_bytes xs) a.0 in
    let b = link_bytes x ++ links_bytes xs in
    ap (option_and_then (λ y. option_map (λ rest. y ∷ rest) (links_at s (length xs) (drop (size_at s b) b)))) t.read
    ∙ ap (λ r. option_map (λ rest. x ∷ rest) (links_at s (length xs) r)) (behind-link s x (links_bytes xs) t)
    ∙ ap (option_map (λ rest. x ∷ rest)) (links-again s xs a.1)

-- this many numbers from 1 to 128 rise
pub rising-few : (s : Schema) (low : ℕ) (xs : List StoredLink) → low ≤ MOST_DOMAINS → rises_above low xs ≡ true
    → each_link_in s xs ≡ true → low + length xs ≤ MOST_DOMAINS
rising-few s low [] l r h = omega arith
rising-few s low (x ∷ xs) l r h =
    let a = and_parts (nat_lt low x.domain) _ r in
    let b = and_parts (is_link_in s x) _ h in
    let d = and_parts (is_between 1 MOST_DOMAINS x.domain) _ b.0 in
    let small : x.domain ≤ MOST_DOMAINS = leb-true _ _ (and_parts (nat_le 1 x.domain) _ d.0).1 in
    let above : low < x.domain = ltb-true _ _ a.0 in
    let rest : x.domain + length xs ≤ MOST_DOMAINS = rising-few s x.domain xs small a.1 b.1 in
    omega arith
