-- Who may hold a domain, and the numbers that stand for it.
use Rattle.std.specs.Prelude.{ℕ, ◌&&◌, ◌==◌, nat_le, Bool, true, false, if◌then◌else◌, Option, Some, None}
use Rattle.smi_base.specs.declared.trees.TheConstants.{MOST_DOMAINS, MOST_OPERATORS}
use Rattle.smi_grant.specs.declared.holder.Holder.{Holder}
use Rattle.smi_grant.specs.declared.holder.Holder.TheVariants.{Free, Operator, Domain}

abbrev pub is_free : Holder → Bool
is_free Free = true
is_free (Operator n) = false
is_free (Domain n) = false

abbrev pub same_holder : Holder → Holder → Bool
same_holder Free Free = true
same_holder (Operator a) (Operator b) = a == b
same_holder (Domain a) (Domain b) = a == b
same_holder _ _ = false

-- 1 where somebody holds the domain, as the last digit of its epoch in base 2
abbrev pub odd_of : Holder → ℕ
odd_of Free = 0
odd_of (Operator n) = 1
odd_of (Domain n) = 1

-- operators are 1 to 32, domains 1 to 128
abbrev pub is_in_range : Holder → Bool
is_in_range Free = true
is_in_range (Operator n) = nat_le 1 n && nat_le n MOST_OPERATORS
is_in_range (Domain n) = nat_le 1 n && nat_le n MOST_DOMAINS

abbrev pub kind_of : Holder → ℕ
kind_of Free = 0
kind_of (Operator n) = 1
kind_of (Domain n) = 2

abbrev pub number_of : Holder → ℕ
number_of Free = 0
number_of (Operator n) = n
number_of (Domain n) = n

-- the holder of a kind and a number
abbrev pub holder_of : ℕ → ℕ → Option Holder
holder_of kind n =
    if kind == 0 then (if n == 0 then Some Free else None)
    else (if kind == 1 then Some (Operator n) else (if kind == 2 then Some (Domain n) else None))
