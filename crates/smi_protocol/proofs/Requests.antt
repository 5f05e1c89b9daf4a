-- The orders that ask for commands are alike.
use Rattle.std.proofs.Common.{ℕ, ◌≡◌, refl}
use Rattle.std.specs.Prelude.{◌&&◌}
use Rattle.smi_grant.specs.declared.Command.{Command}
use Rattle.smi_grant.specs.declared.Command.TheVariants.{Do, Include, Exclude, Manual, Ignore}
use Rattle.smi_tree.specs.Hierarchy.{Hierarchy}
use Rattle.smi_tree.specs.Roles.{has_domain}
use Rattle.smi_protocol.specs.Grants.{Grants}
use Rattle.smi_protocol.specs.Happening.{order_of}
use Rattle.smi_protocol.specs.Ordering.{commands, order_comes}
use Rattle.smi_protocol.specs.Refusals.{command_refusal, is_order_of, refusal_by_link}
use Rattle.smi_protocol.specs.Request.{has_named}

pub command_named : (h : Hierarchy) (d : ℕ) (c : Command)
    → is_order_of h (order_of d c) ≡ (has_domain h d && has_named h c)
command_named h d (Do a) = refl
command_named h d (Include t) = refl
command_named h d (Exclude t) = refl
command_named h d (Manual t) = refl
command_named h d (Ignore t) = refl

pub command_refused : (h : Hierarchy) (g : Grants) (o d : ℕ) (c : Command)
    → refusal_by_link h g o (order_of d c) ≡ command_refusal g o d c
command_refused h g o d (Do a) = refl
command_refused h g o d (Include t) = refl
command_refused h g o d (Exclude t) = refl
command_refused h g o d (Manual t) = refl
command_refused h g o d (Ignore t) = refl

pub command_comes : (h : Hierarchy) (number : ℕ) (g : Grants) (o d : ℕ) (c : Command)
    → order_comes h number g o (order_of d c) ≡ commands h number g o d c
command_comes h number g o d (Do a) = refl
command_comes h number g o d (Include t) = refl
command_comes h number g o d (Exclude t) = refl
command_comes h number g o d (Manual t) = refl
command_comes h number g o d (Ignore t) = refl
