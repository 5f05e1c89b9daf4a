-- Turn after turn, up to the end of the service.
use Rattle.std.proofs.Common.{◌≡◌, ℕ, suc, ◌+◌, ◌<◌, Bool, true, false, List, [], ◌∷◌, length, Some, Result, Ok, Err}
use Rattle.std.proofs.Common.{refl, sym, subst, ◌∙◌, arith}
use Rattle.smi_protocol.specs.Step.{Out}
use Rattle.smi_protocol.specs.declared.event.Event.{Event}
use Rattle.smi_protocol.specs.declared.event.Heard.{Heard}
use Rattle.smi_protocol.specs.declared.event.StepFault.{StepFault}
use Rattle.smi_node.specs.Carried.{Node}
use Rattle.smi_node.specs.Served.{AreFailed, Carrying, Coming, Came, Quiet, Failed, Serves, TakesTurns, carrying}
use Rattle.smi_node.specs.Served.{is_failed, most_faults}
use Rattle.smi_node.specs.Turning.{MadeTurns, TurnsSo, ended_by, in_a_row}
use Rattle.smi_node.specs.declared.node.CarryFault.{CarryFault}
use Rattle.smi_node.specs.declared.node.CarryFault.TheVariants.{Stopped, Memory}
use Rattle.smi_node.specs.declared.turns.ServeFault.TheVariants as serve
use Rattle.smi_node.proofs.Counted.{failed_in_a_row, turn_asks, turns_ask, turns_count}

pub none_made : {T : Type 0} (C : Carrying T) (operators : List ℕ) (a : Node T) → MadeTurns C operators 0 0 a a
none_made C operators a = record { comings = []; count = refl; path = refl; row = tt; few = omega arith }

-- a fault more in the row, or none
row_after : (k : ℕ) (failed : Bool) (coming : Coming) (more : List Coming) → failed ≡ is_failed coming
    → AreFailed k more → AreFailed (in_a_row k failed) (coming ∷ more)
row_after k false coming more is row = tt
row_after k true Failed more is row = subst (λ n. AreFailed n (Failed ∷ more)) (later k) (refl, row)
  where
    later : (n : ℕ) → suc n ≡ n + 1
    later n = omega arith
row_after k true (Came bytes) more is row = absurd (let wrong : true ≡ false = is in cc)
row_after k true Quiet more is row = absurd (let wrong : true ≡ false = is in cc)

-- one turn more, of which the row so far is not yet told to be short
pub next_made : {T : Type 0} (C : Carrying T) (operators : List ℕ) (n k : ℕ) (a b c : Node T) (failed : Bool)
    → MadeTurns C operators n k a b → TurnsSo C operators b c (Ok failed)
    → (comings : List Coming) × (length comings ≡ n + 1) × TakesTurns C operators comings a c
    × AreFailed (in_a_row k failed) comings
next_made C operators n k a b c failed made one = (
  one.0 ∷ made.comings,
  (let count = made.count in omega (arith, count)),
  (b, made.path, one.2),
  row_after k failed one.0 made.comings one.1 made.row,
)

-- a row that grew and is not all is short
pub still_short : (k j : ℕ) (failed : Bool) → k < most_faults → j ≡ in_a_row k failed → (j ≡ most_faults → ⊥)
    → j < most_faults
still_short k j true few is other = omega (arith, few, is, other)
still_short k j false few is other = omega (arith, is)

pub still_made : {T : Type 0} (C : Carrying T) (operators : List ℕ) (n k j : ℕ) (a b c : Node T) (failed : Bool)
    → MadeTurns C operators n k a b → TurnsSo C operators b c (Ok failed)
    → j ≡ in_a_row k failed → j < most_faults → MadeTurns C operators (n + 1) j a c
still_made C operators n k j a b c failed made one is few =
    let next = next_made C operators n k a b c failed made one in
    record {
      comings = next.0;
      count = next.1;
      path = next.2;
      row = subst (λ i. AreFailed i next.0) (sym is) next.3;
      few = few;
    }

abbrev StepsIn : Type 0 → Type 1
StepsIn T = T → Event → T → Out → Result Heard StepFault → Type 0

-- all turns are made
pub served : {T : Type 0} (S : StepsIn T) (operators : List ℕ) (n turns k : ℕ) (a b : Node T)
    → MadeTurns (carrying S operators) operators n k a b → n ≡ turns
    → Serves (carrying S operators) operators turns a b (Ok tt)
served S operators n turns k a b made is =
    let counts = turns_count S operators made.comings a b made.path in
    record {
      comings = made.comings;
      ends = (made.count ∙ is, made.path);
      received = counts.received;
      failures = counts.failures;
      receives = turns_ask S operators made.comings a b made.path;
      spent = tt;
    }

-- the link failed too often
pub link_failed : {T : Type 0} (S : StepsIn T) (operators : List ℕ) (n turns k j : ℕ) (a b c : Node T)
    (failed : Bool) → MadeTurns (carrying S operators) operators n k a b
    → TurnsSo (carrying S operators) operators b c (Ok failed) → n < turns → j ≡ in_a_row k failed → j ≡ most_faults
    → Serves (carrying S operators) operators turns a c (Err serve.Link)
link_failed S operators n turns k j a b c failed made one within is all =
    let next = next_made (carrying S operators) operators n k a b c failed made one in
    let counts = turns_count S operators next.0 a c next.2 in
    let row : AreFailed most_faults next.0 = subst (λ i. AreFailed i next.0) (sym is ∙ all) next.3 in
    record {
      comings = next.0;
      ends = ((let count = next.1 in omega (arith, count, within)), next.2, row);
      received = counts.received;
      failures = counts.failures;
      receives = turns_ask S operators next.0 a c next.2;
      spent = (let many = failed_in_a_row most_faults next.0 row in let p = counts.failures in omega (arith, many, p));
    }

-- a turn ended in a fault
pub broken : {T : Type 0} (S : StepsIn T) (operators : List ℕ) (n turns k : ℕ) (a b c : Node T) (f : CarryFault)
    → MadeTurns (carrying S operators) operators n k a b
    → TurnsSo (carrying S operators) operators b c (Err f) → n < turns
    → Serves (carrying S operators) operators turns a c (Err (ended_by f))
broken S operators n turns k a b c Stopped made one within = record {
  comings = made.comings;
  ends = ((let count = made.count in omega (arith, count, within)), b, made.path, one.0, one.1);
  received = tt;
  failures = tt;
  receives = (let whole = turns_ask S operators made.comings a b made.path in
      let one_more = turn_asks S operators one.0 b c (Some Stopped) one.1 in omega (arith, whole, one_more));
  spent = tt;
}
broken S operators n turns k a b c Memory made one within = record {
  comings = made.comings;
  ends = ((let count = made.count in omega (arith, count, within)), b, made.path, one.0, one.1);
  received = tt;
  failures = tt;
  receives = (let whole = turns_ask S operators made.comings a b made.path in
      let one_more = turn_asks S operators one.0 b c (Some Memory) one.1 in omega (arith, whole, one_more));
  spent = tt;
}
