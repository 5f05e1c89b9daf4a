-- What is said is read again from its fields, and its numbers fit their places.
use Rattle.std.proofs.Common.{◌≡◌, ℕ, ◌<◌, ◌≤◌, ◌^◌, Bool, true, false, Option, Some, refl, ap, ◌∙◌, arith}
use Rattle.std.specs.Prelude.{◌&&◌, ◌||◌, ◌==◌, nat_le}
use Rattle.std.proofs.lemmas.Bool.{and_parts}
use Rattle.std.proofs.lemmas.Bool.Decides.{nat_tests}
use Rattle.smi_base.specs.declared.trees.TheConstants.{MOST_DOMAINS, MOST_OBJECTS, MOST_STATES, MOST_STATIONS}
use Rattle.smi_base.specs.declared.numbers.TheConstants.{LAST_BOOT, LAST_SEQUENCE}
use Rattle.smi_grant.specs.declared.Holder.{Holder}
use Rattle.smi_grant.specs.declared.Holder.TheVariants.{Free, Operator, Domain}
use Rattle.smi_grant.specs.declared.Command.{Command}
use Rattle.smi_grant.specs.declared.Command.TheVariants.{Do, Include, Exclude, Manual, Ignore}
use Rattle.smi_grant.specs.declared.Phase.{Phase}
use Rattle.smi_grant.specs.declared.Phase.TheVariants.{Settled, Busy}
use Rattle.smi_grant.specs.Holder as holder
use Rattle.smi_grant.specs.Holder.{kind_of, number_of, holder_of}
use Rattle.smi_grant.specs.Command as command
use Rattle.smi_grant.specs.Command.{verb_of, argument_of, most_argument}
use Rattle.smi_grant.specs.Record.{Standing, phase_number, phase_of, is_record, is_outcome, checked, last_epoch}
use Rattle.smi_grant.specs.Record.{last_number}
use Rattle.smi_message.specs.declared.fields.Fields.{Fields}
use Rattle.smi_message.specs.declared.datagram.Body.{Body}
use Rattle.smi_message.specs.declared.datagram.Body.TheVariants as body
use Rattle.smi_base.specs.Between.{is_between}
use Rattle.smi_message.specs.Message.{is_addressed, is_body, is_domain, is_object, is_boot, is_version}
use Rattle.smi_message.specs.Message.{is_party, is_grant_epoch}
use Rattle.smi_message.specs.Spelling.{is_kind}
use Rattle.smi_message.specs.Kinds.{fields_of, body_at, command_in, layout_of, is_rest_zero}
use Rattle.smi_message.proofs.Bytes.{Fit}

holder_again : (h : Holder) → holder_of (kind_of h) (number_of h) ≡ Some h
holder_again Free = refl
holder_again (Operator n) = refl
holder_again (Domain n) = refl

phase_again : (p : Phase) → phase_of (phase_number p) ≡ Some p
phase_again Settled = refl
phase_again Busy = refl

command_again : (c : Command) → command_in (layout_of c) (verb_of c) (argument_of c) ≡ Some c
command_again (Do a) = refl
command_again (Include t) = refl
command_again (Exclude t) = refl
command_again (Manual t) = refl
command_again (Ignore t) = refl

-- ---- the first tests

pub layout_again : (from to tree : ℕ) (b : Body) → is_between 1 2 (fields_of from to tree b).layout ≡ true
layout_again from to tree (body.Ask d) = refl
layout_again from to tree (body.Take d h s) = refl
layout_again from to tree (body.Drop d h e) = refl
layout_again from to tree (body.Run d h e n (Do a)) = refl
layout_again from to tree (body.Run d h e n (Include t)) = refl
layout_again from to tree (body.Run d h e n (Exclude t)) = refl
layout_again from to tree (body.Run d h e n (Manual t)) = refl
layout_again from to tree (body.Run d h e n (Ignore t)) = refl
layout_again from to tree (body.Tell d r) = refl
layout_again from to tree (body.Watch x e) = refl
layout_again from to tree (body.State x e v s) = refl
layout_again from to tree (body.Unwatch x e) = refl

pub kind_again : (from to tree : ℕ) (b : Body)
    → is_kind (fields_of from to tree b).layout (fields_of from to tree b).kind ≡ true
kind_again from to tree (body.Ask d) = refl
kind_again from to tree (body.Take d h s) = refl
kind_again from to tree (body.Drop d h e) = refl
kind_again from to tree (body.Run d h e n (Do a)) = refl
kind_again from to tree (body.Run d h e n (Include t)) = refl
kind_again from to tree (body.Run d h e n (Exclude t)) = refl
kind_again from to tree (body.Run d h e n (Manual t)) = refl
kind_again from to tree (body.Run d h e n (Ignore t)) = refl
kind_again from to tree (body.Tell d r) = refl
kind_again from to tree (body.Watch x e) = refl
kind_again from to tree (body.State x e v s) = refl
kind_again from to tree (body.Unwatch x e) = refl

pub rest_again : (from to tree : ℕ) (b : Body) → is_rest_zero (fields_of from to tree b) ≡ true
rest_again from to tree (body.Ask d) = refl
rest_again from to tree (body.Take d h s) = refl
rest_again from to tree (body.Drop d h e) = refl
rest_again from to tree (body.Run d h e n c) = refl
rest_again from to tree (body.Tell d r) = refl
rest_again from to tree (body.Watch x e) = refl
rest_again from to tree (body.State x e v s) = refl
rest_again from to tree (body.Unwatch x e) = refl

-- ---- what is said

checked_again : (r : Standing) → is_record r ≡ true → checked r ≡ Some r
checked_again r h = rw h refl

pub body_again : (from to tree : ℕ) (b : Body) → is_body b ≡ true → body_at (fields_of from to tree b) ≡ Some b
unfolding body_at
body_again from to tree (body.Ask d) h = refl
body_again from to tree (body.Take d x s) h = rw (holder_again x) refl
body_again from to tree (body.Drop d x e) h = rw (holder_again x) refl
body_again from to tree (body.Run d x e n c) h = rw (holder_again x, command_again c) refl
body_again from to tree (body.Tell d r) h =
    let a = and_parts (is_domain d) _ h in
    let b = and_parts (holder.is_in_range r.holder) _ a.1 in
    let c = and_parts (is_outcome r.outcome) (is_record r) b.1 in
    rw (holder_again r.holder, phase_again r.phase, checked_again r c.1) refl
body_again from to tree (body.Watch x e) h = refl
body_again from to tree (body.State x e v s) h = refl
body_again from to tree (body.Unwatch x e) h = refl

-- ---- numbers fit their places

le_of : (n m : ℕ) → nat_le n m ≡ true → n ≤ m
le_of n m h = grind (arith, nat_tests)

between_of : (low high n : ℕ) → is_between low high n ≡ true → n ≤ high
between_of low high n h = grind (arith, nat_tests)

holder_small : (h : Holder) → holder.is_in_range h ≡ true → number_of h ≤ MOST_DOMAINS
holder_small Free h = omega arith
holder_small (Operator n) h = grind (arith, nat_tests)
holder_small (Domain n) h = grind (arith, nat_tests)

party_small : (h : Holder) → is_party h ≡ true → number_of h ≤ MOST_DOMAINS
party_small h p = holder_small h (and_parts (holder.odd_of h == 1) _ p).1

verb_small : (c : Command) → verb_of c ≤ 5
verb_small (Do a) = omega arith
verb_small (Include t) = omega arith
verb_small (Exclude t) = omega arith
verb_small (Manual t) = omega arith
verb_small (Ignore t) = omega arith

argument_small : (c : Command) → command.is_in_range c ≡ true → argument_of c ≤ MOST_DOMAINS
argument_small (Do a) h = grind (arith, nat_tests)
argument_small (Include t) h = grind (arith, nat_tests)
argument_small (Exclude t) h = grind (arith, nat_tests)
argument_small (Manual t) h = grind (arith, nat_tests)
argument_small (Ignore t) h = grind (arith, nat_tests)

outcome_small : (x : ℕ) → is_outcome x ≡ true → x ≤ 9
outcome_small x h = grind (arith, nat_tests)

record Addressed (f t n : ℕ) : Type 0 where
  from : f ≤ MOST_STATIONS
  to : t ≤ MOST_STATIONS
  tree : n ≤ 65535

addressed : (from to tree : ℕ) → is_addressed from to tree ≡ true → Addressed from to tree
addressed from to tree h = record {
  from = grind (arith, nat_tests);
  to = grind (arith, nat_tests);
  tree = grind (arith, nat_tests);
}

-- the numbers of a datagram that not all kinds have
record Small (f : Fields) : Type 0 where
  subject : f.subject ≤ MOST_OBJECTS
  holder : f.holder ≤ MOST_DOMAINS
  code : f.code ≤ MOST_STATES
  epoch : f.epoch ≤ last_epoch
  number : f.number ≤ last_number
  argument : f.argument ≤ MOST_DOMAINS
  echo : f.echo ≤ LAST_BOOT
  boot : f.boot ≤ LAST_BOOT
  sequence : f.sequence ≤ LAST_SEQUENCE

small : (from to tree : ℕ) (b : Body) → is_body b ≡ true → Small (fields_of from to tree b)
small from to tree (body.Ask d) h =
    let s = between_of 1 MOST_DOMAINS d h in
    record {
      subject = omega arith;
      holder = omega arith;
      code = omega arith;
      epoch = omega arith;
      number = omega arith;
      argument = omega arith;
      echo = omega arith;
      boot = omega arith;
      sequence = omega arith;
    }
small from to tree (body.Take d x e) h =
    let a = and_parts (is_domain d) _ h in
    let b = and_parts (is_party x) (nat_le e last_epoch) a.1 in
    let s = between_of 1 MOST_DOMAINS d a.0 in
    let n = party_small x b.0 in
    let l = le_of e last_epoch b.1 in
    record {
      subject = omega arith;
      holder = omega arith;
      code = omega arith;
      epoch = omega arith;
      number = omega arith;
      argument = omega arith;
      echo = omega arith;
      boot = omega arith;
      sequence = omega arith;
    }
small from to tree (body.Drop d x e) h =
    let a = and_parts (is_domain d) _ h in
    let b = and_parts (is_party x) (is_grant_epoch e) a.1 in
    let c = and_parts (nat_le e last_epoch) _ b.1 in
    let s = between_of 1 MOST_DOMAINS d a.0 in
    let n = party_small x b.0 in
    let l = le_of e last_epoch c.0 in
    record {
      subject = omega arith;
      holder = omega arith;
      code = omega arith;
      epoch = omega arith;
      number = omega arith;
      argument = omega arith;
      echo = omega arith;
      boot = omega arith;
      sequence = omega arith;
    }
small from to tree (body.Run d x e m c) h =
    let a = and_parts (is_domain d) _ h in
    let b = and_parts (is_party x) _ a.1 in
    let g = and_parts (is_grant_epoch e) _ b.1 in
    let i = and_parts (nat_le e last_epoch) _ g.0 in
    let j = and_parts (is_between 1 last_number m) (command.is_in_range c) g.1 in
    let s = between_of 1 MOST_DOMAINS d a.0 in
    let n = party_small x b.0 in
    let l = le_of e last_epoch i.0 in
    let o = between_of 1 last_number m j.0 in
    let v = verb_small c in
    let w = argument_small c j.1 in
    record {
      subject = omega arith;
      holder = omega arith;
      code = omega arith;
      epoch = omega arith;
      number = omega arith;
      argument = omega arith;
      echo = omega arith;
      boot = omega arith;
      sequence = omega arith;
    }
small from to tree (body.Tell d r) h =
    let a = and_parts (is_domain d) _ h in
    let b = and_parts (holder.is_in_range r.holder) _ a.1 in
    let c = and_parts (is_outcome r.outcome) (is_record r) b.1 in
    let g = and_parts (nat_le r.epoch last_epoch) _ c.1 in
    let i = and_parts (nat_le r.last last_number) _ g.1 in
    let s = between_of 1 MOST_DOMAINS d a.0 in
    let n = holder_small r.holder b.0 in
    let v = outcome_small r.outcome c.0 in
    let l = le_of r.epoch last_epoch g.0 in
    let o = le_of r.last last_number i.0 in
    record {
      subject = omega arith;
      holder = omega arith;
      code = omega arith;
      epoch = omega arith;
      number = omega arith;
      argument = omega arith;
      echo = omega arith;
      boot = omega arith;
      sequence = omega arith;
    }
small from to tree (body.Watch x e) h =
    let a = and_parts (is_object x) (is_boot e) h in
    let s = between_of 1 MOST_OBJECTS x a.0 in
    let n = between_of 1 LAST_BOOT e a.1 in
    record {
      subject = omega arith;
      holder = omega arith;
      code = omega arith;
      epoch = omega arith;
      number = omega arith;
      argument = omega arith;
      echo = omega arith;
      boot = omega arith;
      sequence = omega arith;
    }
small from to tree (body.State x e v t) h =
    let a = and_parts (is_object x) _ h in
    let b = and_parts (is_boot e) _ a.1 in
    let c = and_parts (is_version v) (is_between 1 MOST_STATES t) b.1 in
    let g = and_parts (is_boot v.boot) (nat_le v.sequence LAST_SEQUENCE) c.0 in
    let s = between_of 1 MOST_OBJECTS x a.0 in
    let n = between_of 1 LAST_BOOT e b.0 in
    let o = between_of 1 LAST_BOOT v.boot g.0 in
    let l = le_of v.sequence LAST_SEQUENCE g.1 in
    let w = between_of 1 MOST_STATES t c.1 in
    record {
      subject = omega arith;
      holder = omega arith;
      code = omega arith;
      epoch = omega arith;
      number = omega arith;
      argument = omega arith;
      echo = omega arith;
      boot = omega arith;
      sequence = omega arith;
    }
small from to tree (body.Unwatch x e) h =
    let a = and_parts (is_object x) (is_boot e) h in
    let s = between_of 1 MOST_OBJECTS x a.0 in
    let n = between_of 1 LAST_BOOT e a.1 in
    record {
      subject = omega arith;
      holder = omega arith;
      code = omega arith;
      epoch = omega arith;
      number = omega arith;
      argument = omega arith;
      echo = omega arith;
      boot = omega arith;
      sequence = omega arith;
    }

from_again : (from to tree : ℕ) (b : Body) → (fields_of from to tree b).from ≡ from
from_again from to tree (body.Ask d) = refl
from_again from to tree (body.Take d h s) = refl
from_again from to tree (body.Drop d h e) = refl
from_again from to tree (body.Run d h e n c) = refl
from_again from to tree (body.Tell d r) = refl
from_again from to tree (body.Watch x e) = refl
from_again from to tree (body.State x e v s) = refl
from_again from to tree (body.Unwatch x e) = refl

to_again : (from to tree : ℕ) (b : Body) → (fields_of from to tree b).to ≡ to
to_again from to tree (body.Ask d) = refl
to_again from to tree (body.Take d h s) = refl
to_again from to tree (body.Drop d h e) = refl
to_again from to tree (body.Run d h e n c) = refl
to_again from to tree (body.Tell d r) = refl
to_again from to tree (body.Watch x e) = refl
to_again from to tree (body.State x e v s) = refl
to_again from to tree (body.Unwatch x e) = refl

tree_again : (from to tree : ℕ) (b : Body) → (fields_of from to tree b).tree ≡ tree
tree_again from to tree (body.Ask d) = refl
tree_again from to tree (body.Take d h s) = refl
tree_again from to tree (body.Drop d h e) = refl
tree_again from to tree (body.Run d h e n c) = refl
tree_again from to tree (body.Tell d r) = refl
tree_again from to tree (body.Watch x e) = refl
tree_again from to tree (body.State x e v s) = refl
tree_again from to tree (body.Unwatch x e) = refl

pub record AddressAgain (f t n : ℕ) (b : Body) : Type 0 where
  pub from : (fields_of f t n b).from ≡ f
  pub to : (fields_of f t n b).to ≡ t
  pub tree : (fields_of f t n b).tree ≡ n

pub address_again : (from to tree : ℕ) (b : Body) → AddressAgain from to tree b
address_again from to tree b = record {
  from = from_again from to tree b;
  to = to_again from to tree b;
  tree = tree_again from to tree b;
}

pub fit : (from to tree : ℕ) (b : Body) → is_addressed from to tree ≡ true → is_body b ≡ true
    → Fit (fields_of from to tree b)
fit from to tree b g h =
    let a = addressed from to tree g in
    let s = small from to tree b h in
    let i = address_again from to tree b in
    record {
      from = omega arith;
      to = omega arith;
      subject = omega arith;
      holder = omega arith;
      code = omega arith;
      epoch = omega arith;
      number = omega arith;
      argument = omega arith;
      tree = omega arith;
      echo = omega arith;
      boot = omega arith;
      sequence = omega arith;
    }
