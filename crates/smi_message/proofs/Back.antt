-- What fields say has just those fields.
use Rattle.std.proofs.Common.{◌≡◌, ◌⊎◌, ℕ, Bool, true, false, Option, Some, None, refl, sym, ap, ◌∙◌, arith, inl, inr}
use Rattle.std.specs.Prelude.{◌&&◌, ◌||◌, ◌==◌, nat_le, if◌then◌else◌, option_and_then}
use Rattle.std.specs.Option.{option_map}
use Rattle.std.proofs.lemmas.Bool.{eqb-true, and_parts}
use Rattle.std.proofs.lemmas.Bool.Decides.{nat_tests}
use Rattle.smi_grant.specs.declared.Holder.{Holder}
use Rattle.smi_grant.specs.declared.Holder.TheVariants.{Free, Operator, Domain}
use Rattle.smi_grant.specs.declared.Command.{Command}
use Rattle.smi_grant.specs.declared.Command.TheVariants.{Do, Include, Exclude, Manual, Ignore}
use Rattle.smi_grant.specs.declared.Phase.{Phase}
use Rattle.smi_grant.specs.declared.Phase.TheVariants.{Settled, Busy}
use Rattle.smi_grant.specs.Holder.{kind_of, number_of, holder_of}
use Rattle.smi_grant.specs.Command.{verb_of, argument_of, command_of}
use Rattle.smi_grant.specs.Record.{Standing, standing, phase_number, phase_of, is_record, checked}
use Rattle.smi_message.specs.declared.fields.Fields.{Fields}
use Rattle.smi_message.specs.declared.datagram.Body.{Body}
use Rattle.smi_message.specs.declared.datagram.Body.TheVariants as body
use Rattle.smi_base.specs.Between.{is_between}
use Rattle.smi_message.specs.Spelling.{is_kind}
use Rattle.smi_message.specs.Kinds.{fields_of, body_at, holder_at, command_in, command_at, told_at, take_at, drop_at}
use Rattle.smi_message.specs.Kinds.{run_at, tell_at, state_at, layout_of, is_zero_unless, uses_grant, is_grant_zero}
use Rattle.smi_message.specs.Kinds.{is_command_zero, is_watch_zero, is_rest_zero}
use Rattle.smi_message.proofs.Bytes.{Agree, same}

-- ---- which branch gave something

if_some : {A : Type 0} (b : Bool) (x y : Option A) (a : A) → (if b then x else y) ≡ Some a
    → ((b ≡ true) × (x ≡ Some a)) ⊎ ((b ≡ false) × (y ≡ Some a))
if_some true x y a e = inl (refl, e)
if_some false x y a e = inr (refl, e)

map_some : {A B : Type 0} (g : A → B) (o : Option A) (b : B) → option_map g o ≡ Some b
    → (a : A) × (o ≡ Some a) × (g a ≡ b)
map_some g None b e = absurd cc
map_some g (Some a) b e = let i : g a ≡ b = cc in (a, refl, i)

then_some : {A B : Type 0} (g : A → Option B) (o : Option A) (b : B) → option_and_then g o ≡ Some b
    → (a : A) × (o ≡ Some a) × (g a ≡ Some b)
then_some g None b e = absurd cc
then_some g (Some a) b e = (a, refl, e)

-- ---- the numbers of what they stand for

record SameHolder (k n : ℕ) (h : Holder) : Type 0 where
  kind : kind_of h ≡ k
  number : number_of h ≡ n

some_is : {A : Type 0} (x y : A) → Some x ≡ Some y → x ≡ y
some_is x y e = cc

holder_back : (k n : ℕ) (h : Holder) → holder_of k n ≡ Some h → SameHolder k n h
holder_back k n h e =
    elim (if_some (k == 0) _ _ h e) [
      | inl p ↦ elim (if_some (n == 0) (Some Free) None h p.1) [
        | inl q ↦ let k0 = eqb-true _ _ p.0 in let n0 = eqb-true _ _ q.0 in let i = some_is Free h q.1 in
            record { kind = ap kind_of (sym i) ∙ sym k0; number = ap number_of (sym i) ∙ sym n0 }
        | inr q ↦ absurd cc
      ]
      | inr p ↦ elim (if_some (k == 1) (Some (Operator n)) _ h p.1) [
        | inl q ↦ let k1 = eqb-true _ _ q.0 in let i = some_is (Operator n) h q.1 in
            record { kind = ap kind_of (sym i) ∙ sym k1; number = ap number_of (sym i) }
        | inr q ↦ elim (if_some (k == 2) (Some (Domain n)) None h q.1) [
          | inl r ↦ let k2 = eqb-true _ _ r.0 in let i = some_is (Domain n) h r.1 in
              record { kind = ap kind_of (sym i) ∙ sym k2; number = ap number_of (sym i) }
          | inr r ↦ absurd cc
        ]
      ]
    ]

phase_back : (n : ℕ) (p : Phase) → phase_of n ≡ Some p → phase_number p ≡ n
phase_back n p e =
    elim (if_some (n == 0) (Some Settled) _ p e) [
      | inl q ↦ ap phase_number (sym (some_is Settled p q.1)) ∙ sym (eqb-true _ _ q.0)
      | inr q ↦ elim (if_some (n == 1) (Some Busy) None p q.1) [
        | inl r ↦ ap phase_number (sym (some_is Busy p r.1)) ∙ sym (eqb-true _ _ r.0)
        | inr r ↦ absurd cc
      ]
    ]

record SameCommand (v n : ℕ) (c : Command) : Type 0 where
  verb : verb_of c ≡ v
  argument : argument_of c ≡ n

verb_is : (v m n : ℕ) (c d : Command) → (v == m) ≡ true → Some c ≡ Some d → verb_of c ≡ m → argument_of c ≡ n
    → SameCommand v n d
verb_is v m n c d t e vm an =
    let i = some_is c d e in
    record { verb = ap verb_of (sym i) ∙ vm ∙ sym (eqb-true _ _ t); argument = ap argument_of (sym i) ∙ an }

command_back : (v n : ℕ) (c : Command) → command_of v n ≡ Some c → SameCommand v n c
command_back v n c e =
    elim (if_some (v == 1) (Some (Do n)) _ c e) [
      | inl p ↦ verb_is v 1 n (Do n) c p.0 p.1 refl refl
      | inr p ↦ elim (if_some (v == 2) (Some (Include n)) _ c p.1) [
        | inl p ↦ verb_is v 2 n (Include n) c p.0 p.1 refl refl
        | inr p ↦ elim (if_some (v == 3) (Some (Exclude n)) _ c p.1) [
          | inl p ↦ verb_is v 3 n (Exclude n) c p.0 p.1 refl refl
          | inr p ↦ elim (if_some (v == 4) (Some (Manual n)) _ c p.1) [
            | inl p ↦ verb_is v 4 n (Manual n) c p.0 p.1 refl refl
            | inr p ↦ elim (if_some (v == 5) (Some (Ignore n)) None c p.1) [
              | inl p ↦ verb_is v 5 n (Ignore n) c p.0 p.1 refl refl
              | inr p ↦ absurd cc
            ]
          ]
        ]
      ]
    ]

record InLayout (l v n : ℕ) (c : Command) : Type 0 where
  layout : layout_of c ≡ l
  verb : verb_of c ≡ v
  argument : argument_of c ≡ n

command_in_back : (l v n : ℕ) (c : Command) → command_in l v n ≡ Some c → InLayout l v n c
command_in_back l v n c e =
    let p = then_some (λ c. if layout_of c == l then Some c else None) (command_of v n) c e in
    elim (if_some (layout_of p.0 == l) (Some p.0) None c p.2) [
      | inl q ↦
          let i = some_is p.0 c q.1 in
          let s = command_back v n c (p.1 ∙ q.1) in
          record { layout = ap layout_of (sym i) ∙ eqb-true _ _ q.0; verb = s.verb; argument = s.argument }
      | inr q ↦ absurd cc
    ]

checked_back : (r s : Standing) → checked r ≡ Some s → r ≡ s
checked_back r s e = elim (if_some (is_record r) (Some r) None s e) [ inl q ↦ some_is r s q.1 | inr q ↦ absurd cc ]

-- ---- what is not used is zero

-- the fields with zero where the kind uses none
abbrev used : Fields → Fields
used f = record {
  layout = f.layout;
  kind = f.kind;
  from = f.from;
  to = f.to;
  subject = f.subject;
  holder_kind = if uses_grant f.kind then f.holder_kind else 0;
  phase = if f.kind == 5 then f.phase else 0;
  holder = if uses_grant f.kind then f.holder else 0;
  code = if is_between 4 5 f.kind || f.kind == 7 then f.code else 0;
  epoch = if uses_grant f.kind then f.epoch else 0;
  number = if is_between 4 5 f.kind then f.number else 0;
  argument = if f.kind == 4 then f.argument else 0;
  tree = f.tree;
  echo = if is_between 6 8 f.kind then f.echo else 0;
  boot = if f.kind == 7 then f.boot else 0;
  sequence = if f.kind == 7 then f.sequence else 0;
}

zero_or : (is_used : Bool) (n : ℕ) → is_zero_unless is_used n ≡ true → (if is_used then n else 0) ≡ n
zero_or true n z = refl
zero_or false n z = sym (eqb-true _ _ z)

used_again : (f : Fields) → is_rest_zero f ≡ true → used f ≡ f
used_again f z =
    let a = and_parts (is_grant_zero f) (is_command_zero f && is_watch_zero f) z in
    let b = and_parts (is_command_zero f) (is_watch_zero f) a.1 in
    let g = and_parts (is_zero_unless (uses_grant f.kind) f.holder_kind) _ a.0 in
    let h = and_parts (is_zero_unless (uses_grant f.kind) f.holder) _ g.1 in
    let p = and_parts (is_zero_unless (f.kind == 5) f.phase) _ b.0 in
    let q = and_parts (is_zero_unless (is_between 4 5 f.kind || f.kind == 7) f.code) _ p.1 in
    let r = and_parts (is_zero_unless (is_between 4 5 f.kind) f.number) _ q.1 in
    let e = and_parts (is_zero_unless (is_between 6 8 f.kind) f.echo) _ b.1 in
    let v = and_parts (is_zero_unless (f.kind == 7) f.boot) _ e.1 in
    same (used f) f record {
      layout = refl;
      kind = refl;
      from = refl;
      to = refl;
      subject = refl;
      holder_kind = zero_or _ _ g.0;
      phase = zero_or _ _ p.0;
      holder = zero_or _ _ h.0;
      code = zero_or _ _ q.0;
      epoch = zero_or _ _ h.1;
      number = zero_or _ _ r.0;
      argument = zero_or _ _ r.1;
      tree = refl;
      echo = zero_or _ _ e.0;
      boot = zero_or _ _ v.0;
      sequence = zero_or _ _ v.1;
    }

-- ---- kind by kind

abbrev IsSaid : Fields → Body → Type 0
IsSaid f b = fields_of f.from f.to f.tree b ≡ used f

take_said : (f : Fields) (b : Body) → f.kind ≡ 2 → f.layout ≡ 1 → take_at f ≡ Some b → IsSaid f b
take_said f b k l e =
    let m = map_some (λ h. body.Take f.subject h f.epoch) (holder_at f) b e in
    let s = holder_back f.holder_kind f.holder m.0 m.1 in
    ap (fields_of f.from f.to f.tree) (sym m.2) ∙ rw (k, l, s.kind, s.number) refl

drop_said : (f : Fields) (b : Body) → f.kind ≡ 3 → f.layout ≡ 1 → drop_at f ≡ Some b → IsSaid f b
drop_said f b k l e =
    let m = map_some (λ h. body.Drop f.subject h f.epoch) (holder_at f) b e in
    let s = holder_back f.holder_kind f.holder m.0 m.1 in
    ap (fields_of f.from f.to f.tree) (sym m.2) ∙ rw (k, l, s.kind, s.number) refl

run_said : (f : Fields) (b : Body) → f.kind ≡ 4 → run_at f ≡ Some b → IsSaid f b
run_said f b k e =
    let m = then_some (λ h. option_map (λ c. body.Run f.subject h f.epoch f.number c) (command_at f)) (holder_at f) b
    e in
    let n = map_some (λ c. body.Run f.subject m.0 f.epoch f.number c) (command_at f) b m.2 in
    let s = holder_back f.holder_kind f.holder m.0 m.1 in
    let o = command_in_back f.layout f.code f.argument n.0 n.1 in
    ap (fields_of f.from f.to f.tree) (sym n.2) ∙ rw (k, o.layout, o.verb, o.argument, s.kind, s.number) refl

record IsTold (f : Fields) (r : Standing) : Type 0 where
  kind : kind_of r.holder ≡ f.holder_kind
  number : number_of r.holder ≡ f.holder
  phase : phase_number r.phase ≡ f.phase
  outcome : r.outcome ≡ f.code
  epoch : r.epoch ≡ f.epoch
  last : r.last ≡ f.number

told_back : (f : Fields) (r : Standing) → told_at f ≡ Some r → IsTold f r
told_back f r e =
    let m = then_some (λ h. option_and_then (λ p. checked (standing f.epoch h f.number p f.code)) (phase_of f.phase))
    (holder_at f) r e in
    let n = then_some (λ p. checked (standing f.epoch m.0 f.number p f.code)) (phase_of f.phase) r m.2 in
    let i = checked_back (standing f.epoch m.0 f.number n.0 f.code) r n.2 in
    let s = holder_back f.holder_kind f.holder m.0 m.1 in
    record {
      kind = ap (λ (x : Standing). kind_of x.holder) (sym i) ∙ s.kind;
      number = ap (λ (x : Standing). number_of x.holder) (sym i) ∙ s.number;
      phase = ap (λ (x : Standing). phase_number x.phase) (sym i) ∙ phase_back f.phase n.0 n.1;
      outcome = ap (λ (x : Standing). x.outcome) (sym i);
      epoch = ap (λ (x : Standing). x.epoch) (sym i);
      last = ap (λ (x : Standing). x.last) (sym i);
    }

tell_said : (f : Fields) (b : Body) → f.kind ≡ 5 → f.layout ≡ 1 → tell_at f ≡ Some b → IsSaid f b
tell_said f b k l e =
    let m = map_some (body.Tell f.subject) (told_at f) b e in
    let t = told_back f m.0 m.1 in
    ap (fields_of f.from f.to f.tree) (sym m.2) ∙ rw (k, l, t.kind, t.number, t.phase, t.outcome, t.epoch, t.last) refl

first_layout : (l k : ℕ) → is_kind l k ≡ true → (k == 4) ≡ false → l ≡ 1
first_layout l k h n = grind (arith, nat_tests)

eight : (l k : ℕ) → is_kind l k ≡ true → (k ≡ 1)
    ⊎ ((k ≡ 2) ⊎ ((k ≡ 3) ⊎ ((k ≡ 4) ⊎ ((k ≡ 5) ⊎ ((k ≡ 6) ⊎ ((k ≡ 7) ⊎ (k ≡ 8)))))))
eight l k h = grind (arith, nat_tests)

body_said : (f : Fields) (b : Body) → is_kind f.layout f.kind ≡ true → body_at f ≡ Some b → IsSaid f b
unfolding body_at
body_said f b h e =
    let first : (f.kind == 4) ≡ false → f.layout ≡ 1 = first_layout f.layout f.kind h in
    elim (eight f.layout f.kind h) [
      | inl k ↦ ap (fields_of f.from f.to f.tree) (sym (some_is _ b (rw k at e))) ∙ rw (k, first (rw k refl)) refl
      | inr o ↦ elim o [
        | inl k ↦ take_said f b k (first (rw k refl)) (rw k at e)
        | inr o ↦ elim o [
          | inl k ↦ drop_said f b k (first (rw k refl)) (rw k at e)
          | inr o ↦ elim o [
            | inl k ↦ run_said f b k (rw k at e)
            | inr o ↦ elim o [
              | inl k ↦ tell_said f b k (first (rw k refl)) (rw k at e)
              | inr o ↦ elim o [
                | inl k ↦ ap (fields_of f.from f.to f.tree) (sym (some_is _ b (rw k at e)))
                    ∙ rw (k, first (rw k refl)) refl
                | inr o ↦ elim o [
                  | inl k ↦ ap (fields_of f.from f.to f.tree) (sym (some_is _ b (rw k at e)))
                      ∙ rw (k, first (rw k refl)) refl
                  | inr k ↦ ap (fields_of f.from f.to f.tree) (sym (some_is _ b (rw k at e)))
                      ∙ rw (k, first (rw k refl)) refl
                ]
              ]
            ]
          ]
        ]
      ]
    ]

-- what fields say has just those fields, where those that it does not use are zero
pub fields_back : (f : Fields) (b : Body) → is_kind f.layout f.kind ≡ true → body_at f ≡ Some b
    → is_rest_zero f ≡ true → fields_of f.from f.to f.tree b ≡ f
fields_back f b h e z = body_said f b h e ∙ used_again f z
