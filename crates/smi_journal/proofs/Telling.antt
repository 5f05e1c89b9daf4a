-- What it comes to that a step is noted, or a file begun.
use Rattle.std.proofs.Common.{◌≡◌, inl, inr, ◌∷◌, [], ◌++◌, ℕ, List, Option, Some, refl, ap, ◌∙◌}
use Rattle.std.specs.Prelude.{unwrap_or}
use Rattle.smi_protocol.specs.Step.{Out}
use Rattle.smi_journal.specs.Noted.{BeginsOne, IsBeginning, IsOf, MayBegin, NotesOne, NotesStep, handed_in}
use Rattle.smi_journal.specs.declared.notes.Noting.{Noting}
use Rattle.smi_journal.specs.declared.notes.Noting.TheVariants as noting

-- one step more was told
handed_more : (out : Out) (n : Noting) (before : List Noting) → IsOf out n
    → handed_in (n ∷ before) ≡ handed_in before ++ out ∷ []
handed_more out (noting.Begins opening) before is = absurd is
handed_more out (noting.Writes typed prefix handed) before is = ap (λ (x : Out). handed_in before ++ x ∷ []) is
handed_more out (noting.Keeps typed prefix handed) before is = ap (λ (x : Out). handed_in before ++ x ∷ []) is
handed_more out (noting.Skips handed) before is = ap (λ (x : Out). handed_in before ++ x ∷ []) is
handed_more out (noting.Loses handed) before is = ap (λ (x : Out). handed_in before ++ x ∷ []) is

-- none more
handed_same : (text : List ℕ) (n : Noting) (before : List Noting) → IsBeginning text n
    → handed_in (n ∷ before) ≡ handed_in before
handed_same text (noting.Begins opening) before is = refl
handed_same text (noting.Writes typed prefix handed) before is = absurd is
handed_same text (noting.Keeps typed prefix handed) before is = absurd is
handed_same text (noting.Skips handed) before is = absurd is
handed_same text (noting.Loses handed) before is = absurd is

begun_same : (a b : List Noting) → MayBegin a b → handed_in b ≡ handed_in a
begun_same a b (inl same) = ap handed_in same
begun_same a b (inr begun) = ap handed_in begun.1.2 ∙ handed_same begun.0 begun.1.0 a begun.1.1

-- a step was noted: what was told has grown by what it handed out
pub step_noted : (out : Out) (a b : List Noting) → NotesStep out a b → handed_in b ≡ handed_in a ++ out ∷ []
step_noted out a b noted =
    begun_same noted.0 b noted.2
    ∙ ap handed_in noted.1.2 ∙ handed_more out noted.1.0 a noted.1.1

-- after what was done before, this is noted of a step
pub noted_one : (out : Out) (n : Noting) (last : Option (List Noting)) (before old : List Noting)
    → IsOf out n → last ≡ Some (n ∷ before) → before ≡ old → NotesOne out old (unwrap_or last [])
noted_one out n last before old is grown same =
    (n, is, ap (λ (z : Option (List Noting)). unwrap_or z []) grown ∙ ap (λ (z : List Noting). n ∷ z) same)

-- or a file is begun
pub begun_one : (text : List ℕ) (n : Noting) (last : Option (List Noting)) (before old : List Noting)
    → IsBeginning text n → last ≡ Some (n ∷ before) → before ≡ old → BeginsOne text old (unwrap_or last [])
begun_one text n last before old is grown same =
    (n, is, ap (λ (z : Option (List Noting)). unwrap_or z []) grown ∙ ap (λ (z : List Noting). n ∷ z) same)

-- a step is noted, and no file begun
pub step_alone : (out : Out) (a b : List Noting) → NotesOne out a b → NotesStep out a b
step_alone out a b one = (b, one, inl refl)
