-- Whatever reaches a station moves each link there.
use Rattle.std.proofs.Common.{ℕ, ◌≡◌, Bool, true, false, List, inl, inr, refl, sym, subst}
use Rattle.std.specs.Prelude.{◌==◌, ◌&&◌, Option, Some, None, Result, Ok, Err, if◌then◌else◌}
use Rattle.std.proofs.lemmas.Bool.{and_parts}
use Rattle.smi_grant.specs.declared.Command.{Command}
use Rattle.smi_grant.specs.declared.Command.TheVariants.{Do, Include, Exclude, Manual, Ignore}
use Rattle.smi_grant.specs.declared.Holder.{Holder}
use Rattle.smi_grant.specs.declared.Holder.TheVariants.{Free, Operator, Domain}
use Rattle.smi_grant.specs.declared.Verdict.{Verdict}
use Rattle.smi_grant.specs.declared.Verdict.TheVariants.{New, Same}
use Rattle.smi_grant.specs.Holder.{same_holder}
use Rattle.smi_grant.specs.Keeper.{take_after, drop_after, admits}
use Rattle.smi_grant.specs.Record.{Standing}
use Rattle.smi_message.specs.declared.Body.{Body}
use Rattle.smi_message.specs.declared.Body.TheVariants as body
use Rattle.smi_message.specs.Message.{Message}
use Rattle.smi_tree.specs.Hierarchy.{Hierarchy}
use Rattle.smi_tree.specs.Lookups.{accepts, is_below}
use Rattle.smi_command.specs.declared.Link.{Link}
use Rattle.smi_command.specs.Hearing.{told_link}
use Rattle.smi_command.specs.Order.{take_begun, drop_begun, command_issued}
use Rattle.smi_grant.proofs.Holders.{either, same_is}
use Rattle.smi_rows.specs.declared.Mode.{Mode}
use Rattle.smi_rows.specs.declared.Mode.TheVariants as mode
use Rattle.smi_tree.specs.Roles.{is_parent}
use Rattle.smi_command.specs.Link.{is_held}
use Rattle.smi_protocol.specs.Grants.{Grants, put_link}
use Rattle.smi_protocol.specs.Happening.{Happening, Comes, Orders, Reports, Ticks}
use Rattle.smi_protocol.specs.Keeping.{decided, run_comes}
use Rattle.smi_protocol.specs.Children.{ChildChange, Stays, ComesInto, relinked_or, is_commanded, same_mode}
use Rattle.smi_protocol.specs.Children.{comes_into, handed_on, aimed_at, targeted, child_change, change_of}
use Rattle.smi_protocol.specs.Children.{link_after}
use Rattle.smi_protocol.specs.Hearing.{listener, told_to, parent_heard, ends, ended}
use Rattle.smi_protocol.specs.Ordering.{obeyed, order_comes}
use Rattle.smi_protocol.specs.GrantsOf.{datagram_comes, grant_step}
use Rattle.smi_protocol.specs.declared.Entry.{Entry}
use Rattle.smi_protocol.specs.declared.Order.{Order}
use Rattle.smi_protocol.specs.declared.Order.TheVariants as order
use Rattle.smi_law.specs.World.{Among, MayCome}
use Rattle.smi_protocol.specs.Schedule.{World}
use Rattle.smi_law.proofs.Moves as move
use Rattle.smi_law.proofs.Moves.{LinkMove, at_put_link, choice}

-- What a command does to a link to a child.

module _ (sent : List Message) (x : ℕ) (me : Holder) (l : Link) where
  abbrev Goes : ChildChange → Type 0
  Goes change = LinkMove sent x me l (link_after change l)

  issued : (code : ℕ) (c : Command) (res : Result Link ℕ) → command_issued l c ≡ res → Goes (relinked_or code res)
  issued code c (Ok new) is = move.commands c new is
  issued code c (Err why) is = move.stays

  begun : (code : ℕ) (res : Result Link ℕ) → take_begun l ≡ res → Goes (relinked_or code res)
  begun code (Ok new) is = move.takes new is
  begun code (Err why) is = move.stays

  let_go : (code : ℕ) (res : Result Link ℕ) → drop_begun l ≡ res → Goes (relinked_or code res)
  let_go code (Ok new) is = move.drops new is
  let_go code (Err why) is = move.stays

  handed : (code : ℕ) (c : Command) (m : Mode) → Goes (handed_on code c l m)
  handed code c m = choice Goes (is_held l && is_commanded m) (relinked_or 7 (command_issued l c)) (Stays code)
      (issued 7 c (command_issued l c) refl) move.stays

  moded : (new old : Mode) → Goes (comes_into new old)
  moded new old = choice Goes (same_mode new old) (Stays 3) (ComesInto new) move.stays move.stays

  aimed : (c : Command) (m : Mode) → Goes (aimed_at c l m)
  aimed (Do a) m = move.stays
  aimed (Include t) m = choice Goes (is_held l) (comes_into mode.Included m) (relinked_or 0 (take_begun l))
      (moded mode.Included m) (begun 0 (take_begun l) refl)
  aimed (Exclude t) m = let_go 4 (drop_begun l) refl
  aimed (Manual t) m = choice Goes (is_held l) (comes_into mode.Manual m) (Stays 4) (moded mode.Manual m) move.stays
  aimed (Ignore t) m = choice Goes (is_held l) (comes_into mode.Ignored m) (Stays 4) (moded mode.Ignored m) move.stays

  reached : (h : Hierarchy) (t : ℕ) (c : Command) (m : Mode) → Goes (targeted h t c x l m)
  reached h t c m =
      choice Goes (t == x) (aimed_at c l m) (if is_below h t x then handed_on 6 c l m else Stays 0) (aimed c m)
      (choice Goes (is_below h t x) (handed_on 6 c l m) (Stays 0) (handed 6 c m) move.stays)

  child_moves : (h : Hierarchy) (d : ℕ) (c : Command) (m : Mode) → Goes (child_change h d c x l m)
  child_moves h d (Do a) m = choice Goes (accepts h d a) (handed_on 0 (Do a) l m) (Stays 0) (handed 0 (Do a) m)
      move.stays
  child_moves h d (Include t) m = reached h t (Include t) m
  child_moves h d (Exclude t) m = reached h t (Exclude t) m
  child_moves h d (Manual t) m = reached h t (Manual t) m
  child_moves h d (Ignore t) m = reached h t (Ignore t) m

-- What comes.

decided_stays : (h : Hierarchy) (number : ℕ) (g : Grants) (from x : ℕ) (note : Entry) (sent : List Message)
    (v : Verdict) (me : Holder) (d : ℕ) → LinkMove sent d me (g.links me d)
    ((decided h number g from x note v).grants.links me d)
decided_stays h number g from x note sent (New r) me d = move.stays
decided_stays h number g from x note sent Same me d = move.stays

run_moves : (h : Hierarchy) (number : ℕ) (g : Grants) (from x : ℕ) (who : Holder) (e n : ℕ) (c : Command)
    (sent : List Message) (me : Holder) (d : ℕ)
    → LinkMove sent d me (g.links me d) ((run_comes h number g from x who e n c).grants.links me d)
run_moves h number g from x who e n c sent me d = elim (either (admits (g.records x) who e n)) [
  | inl t ↦ rw t (elim (either (is_parent h d x && same_holder me (Domain x))) [
    | inl u ↦ rw u (
        let a = and_parts (is_parent h d x) _ u in
        subst (λ z. LinkMove sent d z (g.links z d) (link_after (change_of h g x c d) (g.links (Domain x) d)))
        (sym (same_is me (Domain x) a.1))
        (child_moves sent d (Domain x) (g.links (Domain x) d) h x c (g.modes d))
        )
    | inr f ↦ rw f move.stays
  ])
  | inr f ↦ rw f move.stays
]

heard_at : (g : Grants) (who : Holder) (x : ℕ) (r : Standing) (sent : List Message) (m : Message) → Among m sent
    → m.body ≡ body.Tell x r → (me : Holder) (d : ℕ)
    → LinkMove sent d me (g.links me d) (put_link g.links who x (told_link (g.links who x) who r) me d)
heard_at g who x r sent m a b me d =
    at_put_link (LinkMove sent d me (g.links me d)) g.links who x (told_link (g.links who x) who r) me d
    (λ i j. subst (λ z. LinkMove sent z me (g.links me z) (told_link (g.links who x) who r)) (sym i)
    (subst (λ z. LinkMove sent x z (g.links z x) (told_link (g.links who x) who r)) (sym j) (move.hears m r a b)))
    move.stays

ended_links : (b : Bool) (on : Grants) (p : ℕ) → (ended b on p).links ≡ on.links
ended_links true on p = refl
ended_links false on p = refl

tell_moves : (h : Hierarchy) (number : ℕ) (g : Grants) (x : ℕ) (r : Standing) (sent : List Message) (m : Message)
    → Among m sent → m.body ≡ body.Tell x r → (o : Option Holder) (me : Holder) (d : ℕ)
    → LinkMove sent d me (g.links me d) ((told_to h number g x r o).grants.links me d)
tell_moves h number g x r sent m a b None me d = move.stays
tell_moves h number g x r sent m a b (Some Free) me d = move.stays
tell_moves h number g x r sent m a b (Some (Operator o)) me d = heard_at g (Operator o) x r sent m a b me d
tell_moves h number g x r sent m a b (Some (Domain p)) me d =
    let on = parent_heard g p x r in
    subst (λ links. LinkMove sent d me (g.links me d) (links me d)) (sym (ended_links (ends h on p) on p))
    (heard_at g (Domain p) x r sent m a b me d)

body_moves : (h : Hierarchy) (number : ℕ) (g : Grants) (from : ℕ) (sent : List Message) (m : Message) → Among m sent
    → (b : Body) → m.body ≡ b → (me : Holder) (d : ℕ)
    → LinkMove sent d me (g.links me d) ((datagram_comes h number g from b).grants.links me d)
body_moves h number g from sent m a (body.Ask x) b me d = move.stays
body_moves h number g from sent m a (body.Take x who s) b me d =
    decided_stays h number g from x _ sent (take_after (g.records x) who s) me d
body_moves h number g from sent m a (body.Drop x who e) b me d =
    decided_stays h number g from x _ sent (drop_after (g.records x) who e) me d
body_moves h number g from sent m a (body.Run x who e n c) b me d = run_moves h number g from x who e n c sent me d
body_moves h number g from sent m a (body.Tell x r) b me d =
    tell_moves h number g x r sent m a b (listener h number g x r) me d
body_moves h number g from sent m a (body.Watch x echo) b me d = move.stays
body_moves h number g from sent m a (body.State x echo v s) b me d = move.stays
body_moves h number g from sent m a (body.Unwatch x echo) b me d = move.stays

-- Orders.

relinked_at : (g : Grants) (o x : ℕ) (new : Link) (sent : List Message) (me : Holder) (d : ℕ)
    → LinkMove sent x (Operator o) (g.links (Operator o) x) new
    → LinkMove sent d me (g.links me d) (put_link g.links (Operator o) x new me d)
relinked_at g o x new sent me d moved =
    at_put_link (LinkMove sent d me (g.links me d)) g.links (Operator o) x new me d
    (λ i j. subst (λ z. LinkMove sent z me (g.links me z) new) (sym i)
    (subst (λ z. LinkMove sent x z (g.links z x) new) (sym j) moved))
    move.stays

obeyed_moves : (h : Hierarchy) (number : ℕ) (g : Grants) (o x : ℕ) (c : Option Command) (sent : List Message)
    (res : Result Link ℕ) → ((new : Link) → res ≡ Ok new → LinkMove sent x (Operator o) (g.links (Operator o) x) new)
    → (me : Holder) (d : ℕ) → LinkMove sent d me (g.links me d) ((obeyed h number g o x c res).grants.links me d)
obeyed_moves h number g o x c sent (Ok new) moved me d = relinked_at g o x new sent me d (moved new refl)
obeyed_moves h number g o x c sent (Err code) moved me d = move.stays

command_moves : (h : Hierarchy) (number : ℕ) (g : Grants) (o x : ℕ) (c : Command) (sent : List Message) (me : Holder)
    (d : ℕ) → LinkMove sent d me (g.links me d)
    ((obeyed h number g o x (Some c) (command_issued (g.links (Operator o) x) c)).grants.links me d)
command_moves h number g o x c sent me d =
    obeyed_moves h number g o x (Some c) sent (command_issued (g.links (Operator o) x) c)
    (λ new is. move.commands c new is) me d

order_moves : (h : Hierarchy) (number : ℕ) (g : Grants) (o : ℕ) (sent : List Message) (what : Order) (me : Holder)
    (d : ℕ) → LinkMove sent d me (g.links me d) ((order_comes h number g o what).grants.links me d)
order_moves h number g o sent (order.Take x) me d =
    obeyed_moves h number g o x None sent (take_begun (g.links (Operator o) x)) (λ new is. move.takes new is) me d
order_moves h number g o sent (order.Drop x) me d =
    obeyed_moves h number g o x None sent (drop_begun (g.links (Operator o) x)) (λ new is. move.drops new is) me d
order_moves h number g o sent (order.Do x a) me d = command_moves h number g o x (Do a) sent me d
order_moves h number g o sent (order.Include x t) me d = command_moves h number g o x (Include t) sent me d
order_moves h number g o sent (order.Exclude x t) me d = command_moves h number g o x (Exclude t) sent me d
order_moves h number g o sent (order.Manual x t) me d = command_moves h number g o x (Manual t) sent me d
order_moves h number g o sent (order.Ignore x t) me d = command_moves h number g o x (Ignore t) sent me d
order_moves h number g o sent (order.Ask x) me d = move.stays
order_moves h number g o sent (order.Watch x) me d = move.stays
order_moves h number g o sent (order.Unwatch x) me d = move.stays
order_moves h number g o sent (order.Report device s) me d = move.stays

-- each link of the station moves
pub links_move : (h : Hierarchy) (number : ℕ) (g : Grants) (w : World) (what : Happening) → MayCome w what
    → (me : Holder) (d : ℕ) → LinkMove w.sent d me (g.links me d) ((grant_step h number g what).grants.links me d)
links_move h number g w (Comes m) may me d = body_moves h number g m.from w.sent m may m.body refl me d
links_move h number g w (Orders o what) may me d = order_moves h number g o w.sent what me d
links_move h number g w (Reports device s) may me d = move.stays
links_move h number g w Ticks may me d = move.stays
