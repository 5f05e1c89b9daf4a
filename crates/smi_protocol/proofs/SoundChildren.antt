-- What a command does to a child leaves a link of which datagrams can speak, and a code that a record may have.
use Rattle.std.proofs.Common.{ℕ, ◌≡◌, ◌≤◌, ◌<◌, true, false, List, [], ◌∷◌, length, refl, sym, ap, ◌∙◌, arith}
use Rattle.std.specs.Prelude.{◌==◌, ◌&&◌, if◌then◌else◌, Result, Ok, Err}
use Rattle.smi_grant.specs.declared.Command.{Command}
use Rattle.smi_grant.specs.declared.Command.TheVariants.{Do, Include, Exclude, Manual, Ignore}
use Rattle.smi_tree.specs.Hierarchy.{Hierarchy}
use Rattle.smi_tree.specs.Lookups.{accepts, is_below}
use Rattle.smi_command.specs.declared.Link.{Link}
use Rattle.smi_command.specs.declared.Link.TheVariants.{Held}
use Rattle.smi_command.specs.Order.{take_begun, drop_begun, command_issued}
use Rattle.smi_command.proofs.Heard.{choose}
use Rattle.smi_rows.specs.declared.Mode.{Mode}
use Rattle.smi_rows.specs.declared.Mode.TheVariants as mode
use Rattle.smi_command.specs.Link.{is_held, is_unsettled}
use Rattle.smi_protocol.specs.Children.{ChildChange, Stays, Relinked, ComesInto, relinked_or, is_commanded, same_mode}
use Rattle.smi_protocol.specs.Children.{comes_into, handed_on, aimed_at, targeted, child_change, link_after}
use Rattle.smi_protocol.specs.Children.{mode_after, code_of}
use Rattle.smi_protocol.specs.Sound.{IsCommand, IsLink, most_handed_on}
use Rattle.smi_protocol.proofs.SoundLinks.{sound_taken, sound_dropped, sound_issued}

-- if nothing is under way, nothing is pending
pub none_pending : (e n : ℕ) (p : List Command) → is_unsettled (Held e n p) ≡ false → length p < most_handed_on
none_pending e n [] still = omega arith
none_pending e n (c ∷ p) still = absurd cc

-- a child's link and mode, and the code, after a change
pub record IsChanged (h : Hierarchy) (l : Link) (m : Mode) (change : ChildChange) : Type 0 where
  pub link : IsLink h most_handed_on (link_after change l)
  pub mode : is_held (link_after change l) ≡ false → mode_after change m ≡ mode.Included
  pub code : code_of change ≤ 7

module _ (h : Hierarchy) (l : Link) (m : Mode) (sound : IsLink h most_handed_on l) (still : is_unsettled l ≡ false)
    (own : is_held l ≡ false → m ≡ mode.Included) where
  abbrev Fits : ChildChange → Type 0
  Fits = IsChanged h l m

  stays : (code : ℕ) → code ≤ 7 → Fits (Stays code)
  stays code few = record { link = sound; mode = own; code = few }

  relinked : (new : Link) → IsLink h most_handed_on new → Fits (Relinked new)
  relinked new fits = record { link = fits; mode = λ f. rw f refl; code = omega arith }

  begun : (code : ℕ) → code ≤ 7 → (res : Result Link ℕ) → take_begun l ≡ res → Fits (relinked_or code res)
  begun code few (Ok new) is = relinked new (sound_taken h most_handed_on l new is sound)
  begun code few (Err why) is = stays code few

  let_go : (code : ℕ) → code ≤ 7 → (res : Result Link ℕ) → drop_begun l ≡ res → Fits (relinked_or code res)
  let_go code few (Ok new) is = relinked new (sound_dropped h most_handed_on l new is sound)
  let_go code few (Err why) is = stays code few

  issued : (code : ℕ) → code ≤ 7 → (c : Command) → IsCommand h c → (res : Result Link ℕ) → command_issued l c ≡ res
      → Fits (relinked_or code res)
  issued code few c command (Ok new) is =
      relinked new (sound_issued h most_handed_on l c new is command
      (λ e n p was room. none_pending e n p (sym (ap is_unsettled was) ∙ still)) sound)
  issued code few c command (Err why) is = stays code few

  handed : (code : ℕ) → code ≤ 7 → (c : Command) → IsCommand h c → Fits (handed_on code c l m)
  handed code few c command =
      choose Fits (is_held l && is_commanded m) (relinked_or 7 (command_issued l c)) (Stays code)
      (λ t. issued 7 (omega arith) c command (command_issued l c) refl)
      (λ f. stays code few)

  moded : (new : Mode) → is_held l ≡ true → Fits (comes_into new m)
  moded new held =
      choose Fits (same_mode new m) (Stays 3) (ComesInto new)
      (λ t. stays 3 (omega arith))
      (λ f. record {
        link = sound;
        mode = λ out. let wrong : true ≡ false = sym held ∙ out in absurd cc;
        code = omega arith;
      })

  aimed : (c : Command) → Fits (aimed_at c l m)
  aimed (Do a) = stays 0 (omega arith)
  aimed (Include t) = choose Fits (is_held l) (comes_into mode.Included m) (relinked_or 0 (take_begun l))
      (moded mode.Included) (λ f. begun 0 (omega arith) (take_begun l) refl)
  aimed (Exclude t) = let_go 4 (omega arith) (drop_begun l) refl
  aimed (Manual t) = choose Fits (is_held l) (comes_into mode.Manual m) (Stays 4) (moded mode.Manual)
      (λ f. stays 4 (omega arith))
  aimed (Ignore t) = choose Fits (is_held l) (comes_into mode.Ignored m) (Stays 4) (moded mode.Ignored)
      (λ f. stays 4 (omega arith))

  reached : (t x : ℕ) (c : Command) → IsCommand h c → Fits (targeted h t c x l m)
  reached t x c command =
      choose Fits (t == x) (aimed_at c l m) (if is_below h t x then handed_on 6 c l m else Stays 0)
      (λ i. aimed c)
      (λ o. choose Fits (is_below h t x) (handed_on 6 c l m) (Stays 0) (λ i. handed 6 (omega arith) c command)
      (λ f. stays 0 (omega arith)))

  pub child_changed : (d x : ℕ) (c : Command) → IsCommand h c → Fits (child_change h d c x l m)
  child_changed d x (Do a) command = choose Fits (accepts h d a) (handed_on 0 (Do a) l m) (Stays 0)
      (λ t. handed 0 (omega arith) (Do a) command) (λ f. stays 0 (omega arith))
  child_changed d x (Include t) command = reached t x (Include t) command
  child_changed d x (Exclude t) command = reached t x (Exclude t) command
  child_changed d x (Manual t) command = reached t x (Manual t) command
  child_changed d x (Ignore t) command = reached t x (Ignore t) command
