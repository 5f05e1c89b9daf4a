-- What is answered to a whole input.
use Rattle.std.specs.Prelude.{ℕ, zero, suc, ◌≡◌, ◌+◌, ◌<◌, List, [], ◌∷◌, ◌++◌, length, take, drop, Ok, Err, Option}
use Rattle.std.specs.Io.KnownBytes.{Appends}
use Rattle.smi_grant.specs.Record.{Standing, fresh}
use Rattle.smi_message.specs.Bad.{refusal_code}
use Rattle.smi_commands.specs.declared.answer.Answered.{Answered}
use Rattle.smi_commands.specs.declared.answer.Answered.TheVariants.{Ended, Refused, ReadFault, WriteFault, Memory}
use Rattle.smi_commands.specs.Keeper.{answer_to}

-- 44 bytes each; the last piece may be shorter
abbrev pub cut : ℕ → List ℕ → List (List ℕ)
cut zero bytes = []
cut (suc n) [] = []
cut (suc n) (x ∷ bytes) = take 44 (x ∷ bytes) ∷ cut n (drop 44 (x ∷ bytes))

unfoldable pub pieces : List ℕ → List (List ℕ)
pieces bytes = cut (length bytes) bytes

-- the answers to the pieces, up to the first refusal
unfoldable pub answers : Standing → List (List ℕ) → List ℕ
answers r [] = []
answers r (piece ∷ others) = elim (answer_to r piece) [ Ok x ↦ x.1 ++ answers x.0 others | Err c ↦ [] ]

-- how that ends, where k pieces went before: at the end of the input, or at the first refusal
unfoldable pub ending : ℕ → Standing → List (List ℕ) → Answered
ending k r [] = Ended
ending k r (piece ∷ others) =
    elim (answer_to r piece) [ Ok x ↦ ending (k + 1) x.0 others | Err c ↦ Refused (k + 1) (refusal_code c) ]

-- all was read and written, up to the end or to a refusal
abbrev pub IsDone : Answered → Type 0
IsDone Ended = Unit {0}
IsDone (Refused k c) = Unit {0}
IsDone ReadFault = ⊥
IsDone WriteFault = ⊥
IsDone Memory = ⊥

-- if the flush fails, what was answered counts as not written; a fault that came before it stays
abbrev pub first_fault : Answered → Answered
first_fault Ended = WriteFault
first_fault (Refused k c) = WriteFault
first_fault ReadFault = ReadFault
first_fault WriteFault = WriteFault
first_fault Memory = Memory

-- of an input of which so much is left, all whole datagrams that were read are answered; fewer than 44 bytes came after
-- them
pub record AnswersWhole (input left : List ℕ) (before after : Option (List ℕ)) : Type 0 where
  pub whole : List ℕ
  pub rest : List ℕ
  pub read : input ≡ whole ++ (rest ++ left)
  pub short : length rest < 44
  pub written : Appends before after (answers fresh (pieces whole))
