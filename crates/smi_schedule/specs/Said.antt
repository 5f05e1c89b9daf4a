-- What a schedule line says, with its names as they are written. Of its faults the first is told: a word that no line
-- says there, then a wrong count of words, then a name or a number that is not well formed.
use Rattle.std.specs.Prelude.{ℕ, ok_or, List, [], ◌∷◌, Result, Ok, Err}
use Rattle.smi_tree.specs.Fault.{◌>>=◌}
use Rattle.smi_tree.specs.Number.{number_within}
use Rattle.smi_tree.specs.Declaration as declaration
use Rattle.smi_tree.specs.declared.fault.Fault.{Fault}
use Rattle.smi_tree.specs.declared.fault.Fault.TheVariants.{UnknownWord, WordCount, Malformed}
use Rattle.smi_schedule.specs.declared.words.DeedWord.{DeedWord}
use Rattle.smi_schedule.specs.declared.words.DeedWord.TheVariants as deed
use Rattle.smi_schedule.specs.declared.words.LineWord.{LineWord}
use Rattle.smi_schedule.specs.declared.words.LineWord.TheVariants as line
use Rattle.smi_schedule.specs.declared.words.OrderWord.{OrderWord}
use Rattle.smi_schedule.specs.declared.words.OrderWord.TheVariants as order
use Rattle.smi_schedule.specs.declared.said.SaidOrder.{SaidOrder}
use Rattle.smi_schedule.specs.declared.said.SaidOrder.TheVariants as said_order
use Rattle.smi_schedule.specs.declared.said.SaidDeed.{SaidDeed}
use Rattle.smi_schedule.specs.declared.said.SaidDeed.TheVariants as said_deed
use Rattle.smi_schedule.specs.declared.said.Said.{Said}
use Rattle.smi_schedule.specs.declared.said.Said.TheVariants as said
use Rattle.smi_schedule.specs.Words.{deed_word, order_word, moment_of, plan_of}

-- the first word, and the others
abbrev pub next_word : List (List ℕ) → Result (List ℕ × List (List ℕ)) Fault
next_word [] = Err WordCount
next_word (word ∷ more) = Ok (word, more)

abbrev pub name : List ℕ → Result (List ℕ) Fault
name word = declaration.name word

-- one number from this one on, of at most ten digits
abbrev pub one_number : ℕ → List (List ℕ) → Result ℕ Fault
one_number least words = do
  word ← declaration.one words
  ok_or (number_within least 9999999999 word) Malformed

-- an order that names a domain or an object
abbrev pub of_one : (List ℕ → SaidOrder) → List (List ℕ) → Result SaidOrder Fault
of_one make words = do
  own ← declaration.one_name words
  Ok (make own)

-- an order that names a domain and an action or another domain
abbrev pub of_two : (List ℕ → List ℕ → SaidOrder) → List (List ℕ) → Result SaidOrder Fault
of_two make words = do
  names ← declaration.two_names words
  Ok (make names.0 names.1)

-- what the words after an order's word say
abbrev pub order_of : OrderWord → List (List ℕ) → Result SaidOrder Fault
order_of order.Take words = of_one (λ d. said_order.Take d) words
order_of order.Drop words = of_one (λ d. said_order.Drop d) words
order_of order.Ask words = of_one (λ d. said_order.Ask d) words
order_of order.Do words = of_two (λ d a. said_order.Do d a) words
order_of order.Include words = of_two (λ d t. said_order.Include d t) words
order_of order.Exclude words = of_two (λ d t. said_order.Exclude d t) words
order_of order.Manual words = of_two (λ d t. said_order.Manual d t) words
order_of order.Ignore words = of_two (λ d t. said_order.Ignore d t) words
order_of order.Watch words = of_one (λ x. said_order.Watch x) words
order_of order.Unwatch words = of_one (λ x. said_order.Unwatch x) words

-- an operator, what is ordered, and of what
unfoldable pub order_line : List (List ℕ) → Result SaidDeed Fault
order_line words = do
  operator ← next_word words
  word ← next_word operator.1
  which ← ok_or (order_word word.0) UnknownWord
  what ← order_of which word.1
  who ← name operator.0
  Ok (said_deed.Order who what)

-- what the words after a deed's word say
abbrev pub deed_of : DeedWord → List (List ℕ) → Result SaidDeed Fault
deed_of deed.Deliver words = do
  number ← one_number 1 words
  Ok (said_deed.Deliver number)
deed_of deed.Recent words = do
  number ← one_number 0 words
  Ok (said_deed.Recent number)
deed_of deed.Order words = order_line words
deed_of deed.Report words = do
  names ← declaration.two_names words
  Ok (said_deed.Report names.0 names.1)
deed_of deed.Tick words = do
  station ← declaration.one_name words
  Ok (said_deed.Tick station)

-- a deed inside a line
unfoldable pub deed_in : List (List ℕ) → Result SaidDeed Fault
deed_in words = do
  word ← next_word words
  which ← ok_or (deed_word word.0) UnknownWord
  deed_of which word.1

-- a station, the moment at which it stops, and in which deed
unfoldable pub stop_line : List (List ℕ) → Result Said Fault
stop_line words = do
  station ← next_word words
  moment ← next_word station.1
  when ← ok_or (moment_of moment.0) UnknownWord
  what ← deed_in moment.1
  own ← name station.0
  Ok (said.Stop own when what)

-- a station, how its save fails, and in which deed
unfoldable pub fail_line : List (List ℕ) → Result Said Fault
fail_line words = do
  station ← next_word words
  plan ← next_word station.1
  how ← ok_or (plan_of plan.0) UnknownWord
  what ← deed_in plan.1
  own ← name station.0
  Ok (said.Fail own how what)

-- what the words after a line's first word say
abbrev pub said_of : LineWord → List (List ℕ) → Result Said Fault
said_of (line.Do word) words = do
  what ← deed_of word words
  Ok (said.Do what)
said_of line.Restart words = do
  station ← declaration.one_name words
  Ok (said.Restart station)
said_of line.Stop words = stop_line words
said_of line.Fail words = fail_line words
