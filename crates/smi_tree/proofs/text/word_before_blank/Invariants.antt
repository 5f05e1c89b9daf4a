use Rattle.std.proofs.Common.{◌≡◌, ℕ, ◌<◌, false, get_or, take}
use Rattle.std.specs.List.{list_all}
use Rattle.smi_tree.specs.Name.{is_name_byte}
use Rattle.smi_tree.specs.Text.{cuts}
use Rattle.smi_tree.specs.declared.text.Separator.TheVariants.{Blank}
use Rattle.smi_tree.proofs.text.word_before_blank.Given as goal

-- no blank is before this place, and the bytes before it are as found
abbrev pub invariant-loop-place : goal.invariant-loop-place
invariant-loop-place l = record {
  free : (k : ℕ) → k < l.place → cuts Blank (get_or l.text k 0) ≡ false;
  names : l.has_name_bytes_alone ≡ list_all is_name_byte (take l.place l.text);
}
