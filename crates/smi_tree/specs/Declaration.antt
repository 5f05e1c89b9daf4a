-- What a line declares, by its words.
use Rattle.std.specs.Prelude.{ℕ, ok_or, List, [], ◌∷◌, Option, Some, None, Result, Ok, Err, codes, if◌then◌else◌}
use Rattle.std.specs.Str.{bytes_eq}
use Rattle.smi_tree.specs.Fault.{◌>>=◌}
use Rattle.smi_tree.specs.Name.{name_of}
use Rattle.smi_tree.specs.Number.{number_within, address_of}
use Rattle.smi_tree.specs.declared.fault.Fault.{Fault}
use Rattle.smi_tree.specs.declared.fault.Fault.TheVariants.{WordCount, Malformed, BadAddress}
use Rattle.smi_tree.specs.declared.declaration.Keyword.{Keyword}
use Rattle.smi_tree.specs.declared.declaration.Keyword.TheVariants as keyword
use Rattle.smi_tree.specs.declared.declaration.ClassKind.{ClassKind}
use Rattle.smi_tree.specs.declared.declaration.ClassKind.TheVariants as kind
use Rattle.smi_tree.specs.declared.declaration.Quantifier.{Quantifier}
use Rattle.smi_tree.specs.declared.declaration.Quantifier.TheVariants as quantifier
use Rattle.smi_tree.specs.declared.declaration.Declaration.{Declaration}
use Rattle.smi_tree.specs.declared.declaration.Declaration.TheVariants as declares

-- the words after the first, as many as a line wants
abbrev pub one : List (List ℕ) → Result (List ℕ) Fault
one [] = Err WordCount
one (word ∷ []) = Ok word
one (word ∷ other ∷ more) = Err WordCount

abbrev pub two : List (List ℕ) → Result (List ℕ × List ℕ) Fault
two [] = Err WordCount
two (word ∷ more) = do
  second ← one more
  Ok (word, second)

abbrev pub three : List (List ℕ) → Result (List ℕ × List ℕ × List ℕ) Fault
three [] = Err WordCount
three (word ∷ more) = do
  later ← two more
  Ok (word, later.0, later.1)

abbrev pub four : List (List ℕ) → Result (List ℕ × List ℕ × List ℕ × List ℕ) Fault
four [] = Err WordCount
four (word ∷ more) = do
  later ← three more
  Ok (word, later.0, later.1, later.2)

-- the thirteen words that a line may begin with
abbrev pub keyword_of : List ℕ → Option Keyword
keyword_of word =
    if bytes_eq word (codes "tree") then Some keyword.Tree
    else (if bytes_eq word (codes "state") then Some keyword.State
    else (if bytes_eq word (codes "action") then Some keyword.Action
    else (if bytes_eq word (codes "station") then Some keyword.Station
    else (if bytes_eq word (codes "operator") then Some keyword.Operator
    else (if bytes_eq word (codes "devclass") then Some keyword.DeviceClass
    else (if bytes_eq word (codes "move") then Some keyword.Move
    else (if bytes_eq word (codes "unitclass") then Some keyword.UnitClass
    else (if bytes_eq word (codes "accept") then Some keyword.Accept
    else (if bytes_eq word (codes "any") then Some keyword.Any
    else (if bytes_eq word (codes "all") then Some keyword.All
    else (if bytes_eq word (codes "domain") then Some keyword.Domain
    else (if bytes_eq word (codes "device") then Some keyword.Device
    else None))))))))))))

abbrev pub name : List ℕ → Result (List ℕ) Fault
name word = ok_or (name_of word) Malformed

unfoldable pub one_name : List (List ℕ) → Result (List ℕ) Fault
one_name words = do
  word ← one words
  name word

unfoldable pub two_names : List (List ℕ) → Result (List ℕ × List ℕ) Fault
two_names words = do
  word ← two words
  first ← name word.0
  second ← name word.1
  Ok (first, second)

unfoldable pub three_names : List (List ℕ) → Result (List ℕ × List ℕ × List ℕ) Fault
three_names words = do
  word ← three words
  first ← name word.0
  second ← name word.1
  third ← name word.2
  Ok (first, second, third)

unfoldable pub four_names : List (List ℕ) → Result (List ℕ × List ℕ × List ℕ × List ℕ) Fault
four_names words = do
  word ← four words
  first ← name word.0
  second ← name word.1
  third ← name word.2
  fourth ← name word.3
  Ok (first, second, third, fourth)

-- a tree's number is 1 to 65535
unfoldable pub tree_line : List (List ℕ) → Result Declaration Fault
tree_line words = do
  word ← one words
  number ← ok_or (number_within 1 65535 word) Malformed
  Ok (declares.Tree number)

unfoldable pub station_line : List (List ℕ) → Result Declaration Fault
station_line words = do
  word ← two words
  own ← name word.0
  address ← ok_or (address_of word.1) BadAddress
  Ok (declares.Station own address)

-- a dash stands for no parent
unfoldable pub parent : List ℕ → Result (Option (List ℕ)) Fault
parent word = if bytes_eq word (codes "-") then Ok None else (do
  above ← name word
  Ok (Some above))

unfoldable pub domain_line : List (List ℕ) → Result Declaration Fault
domain_line words = do
  word ← four words
  own ← name word.0
  station ← name word.1
  class ← name word.2
  above ← parent word.3
  Ok (declares.Domain own station class above)

abbrev pub class_line : ClassKind → List (List ℕ) → Result Declaration Fault
class_line which words = do
  names ← two_names words
  Ok (declares.Class which names.0 names.1)

abbrev pub rule_line : Quantifier → List (List ℕ) → Result Declaration Fault
rule_line which words = do
  names ← three_names words
  Ok (declares.Rule which names.0 names.1 names.2)

-- what the words after a keyword declare
abbrev pub declaration_of : Keyword → List (List ℕ) → Result Declaration Fault
declaration_of keyword.Tree words = tree_line words
declaration_of keyword.State words = do
  own ← one_name words
  Ok (declares.State own)
declaration_of keyword.Action words = do
  own ← one_name words
  Ok (declares.Action own)
declaration_of keyword.Station words = station_line words
declaration_of keyword.Operator words = do
  names ← two_names words
  Ok (declares.Operator names.0 names.1)
declaration_of keyword.DeviceClass words = class_line kind.Device words
declaration_of keyword.Move words = do
  names ← four_names words
  Ok (declares.Move names.0 names.1 names.2 names.3)
declaration_of keyword.UnitClass words = class_line kind.Unit words
declaration_of keyword.Accept words = do
  names ← two_names words
  Ok (declares.Accept names.0 names.1)
declaration_of keyword.Any words = rule_line quantifier.Any words
declaration_of keyword.All words = rule_line quantifier.All words
declaration_of keyword.Domain words = domain_line words
declaration_of keyword.Device words = do
  names ← three_names words
  Ok (declares.Device names.0 names.1 names.2)
