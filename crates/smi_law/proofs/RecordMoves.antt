-- Whatever reaches a station moves each record there.
use Rattle.std.proofs.Common.{ℕ, ◌≡◌, Bool, true, false, List, inl, inr, refl, sym, subst}
use Rattle.std.specs.Prelude.{not, Option, Some, None, Result, Ok, Err, if◌then◌else◌}
use Rattle.std.proofs.lemmas.Bool.{and_parts}
use Rattle.smi_grant.specs.declared.Command.{Command}
use Rattle.smi_grant.specs.declared.Command.TheVariants.{Do, Include, Exclude, Manual, Ignore}
use Rattle.smi_grant.specs.declared.Holder.{Holder}
use Rattle.smi_grant.specs.declared.Holder.TheVariants.{Free, Operator, Domain}
use Rattle.smi_grant.specs.declared.Verdict.{Verdict}
use Rattle.smi_grant.specs.declared.Verdict.TheVariants.{New, Same}
use Rattle.smi_grant.specs.Keeper.{take_after, drop_after, admits, started, settled}
use Rattle.smi_grant.specs.Record.{Standing, is_settled}
use Rattle.smi_message.specs.declared.Body.{Body}
use Rattle.smi_message.specs.declared.Body.TheVariants as body
use Rattle.smi_message.specs.Message.{Message}
use Rattle.smi_tree.specs.Hierarchy.{Hierarchy}
use Rattle.smi_command.specs.declared.Link.{Link}
use Rattle.smi_command.specs.declared.Due.TheVariants.{Take, Drop, Run}
use Rattle.smi_command.specs.Order.{take_begun, drop_begun, command_issued}
use Rattle.smi_command.specs.OneLink.{kept_after}
use Rattle.smi_grant.proofs.Holders.{either}
use Rattle.smi_protocol.specs.Grants.{Grants, put}
use Rattle.smi_protocol.specs.Happening.{Happening, Comes, Orders, Reports, Ticks}
use Rattle.smi_protocol.specs.Keeping.{decided, commanded, run_comes}
use Rattle.smi_protocol.specs.Children.{own_code}
use Rattle.smi_protocol.specs.GrantStep.{waits_for_children}
use Rattle.smi_protocol.specs.Hearing.{listener, told_to, parent_heard, ends, ended}
use Rattle.smi_protocol.specs.Ordering.{obeyed, order_comes}
use Rattle.smi_protocol.specs.GrantsOf.{datagram_comes, grant_step}
use Rattle.smi_protocol.specs.declared.Entry.{Entry}
use Rattle.smi_protocol.specs.declared.Order.{Order}
use Rattle.smi_protocol.specs.declared.Order.TheVariants as order
use Rattle.smi_law.specs.World.{Among, MayCome}
use Rattle.smi_protocol.specs.Schedule.{World}
use Rattle.smi_law.proofs.Moves as move
use Rattle.smi_law.proofs.Moves.{RecordMove, at_put}

-- a move of the record of one domain is one of a table's record
moved_at : (sent : List Message) (table : ℕ → Standing) (x : ℕ) (r : Standing) (d : ℕ)
    → RecordMove sent x (table x) r → RecordMove sent d (table d) (put table x r d)
moved_at sent table x r d moved =
    at_put (RecordMove sent d (table d)) table x r d (λ e. subst (λ z. RecordMove sent z (table z) r) (sym e) moved)
    move.rests

take_moves : (h : Hierarchy) (number : ℕ) (g : Grants) (from x : ℕ) (note : Entry) (who : Holder) (s : ℕ)
    (sent : List Message) (m : Message) → Among m sent → m.body ≡ body.Take x who s
    → (v : Verdict) → take_after (g.records x) who s ≡ v → (d : ℕ)
    → RecordMove sent d (g.records d) ((decided h number g from x note v).grants.records d)
take_moves h number g from x note who s sent m a b (New r) is d =
    moved_at sent g.records x r d
    (subst (λ v. RecordMove sent x (g.records x) (kept_after (g.records x) v)) is
    (move.asked m who (Take s) a b false 0))
take_moves h number g from x note who s sent m a b Same is d = move.rests

drop_moves : (h : Hierarchy) (number : ℕ) (g : Grants) (from x : ℕ) (note : Entry) (who : Holder) (e : ℕ)
    (sent : List Message) (m : Message) → Among m sent → m.body ≡ body.Drop x who e
    → (v : Verdict) → drop_after (g.records x) who e ≡ v → (d : ℕ)
    → RecordMove sent d (g.records d) ((decided h number g from x note v).grants.records d)
drop_moves h number g from x note who e sent m a b (New r) is d =
    moved_at sent g.records x r d
    (subst (λ v. RecordMove sent x (g.records x) (kept_after (g.records x) v)) is
    (move.asked m who (Drop e) a b false 0))
drop_moves h number g from x note who e sent m a b Same is d = move.rests

run_moves : (h : Hierarchy) (number : ℕ) (g : Grants) (from x : ℕ) (who : Holder) (e n : ℕ) (c : Command)
    (sent : List Message) (m : Message) → Among m sent → m.body ≡ body.Run x who e n c
    → (d : ℕ) → RecordMove sent d (g.records d) ((run_comes h number g from x who e n c).grants.records d)
run_moves h number g from x who e n c sent m a b d = elim (either (admits (g.records x) who e n)) [
  | inl t ↦ rw t (
      moved_at sent g.records x (started (g.records x) busy own) d
      (subst (λ z. RecordMove sent x (g.records x) (if z then started (g.records x) busy own else g.records x)) t
      (move.asked m who (Run e n c) a b busy own))
      )
  | inr f ↦ rw f move.rests
]
  where
    busy : Bool
    busy = waits_for_children h (commanded h g x c) x

    own : ℕ
    own = own_code h g x c

ended_moves : (h : Hierarchy) (g on : Grants) (p : ℕ) (sent : List Message) → on.records ≡ g.records → (b : Bool)
    → ends h on p ≡ b → (d : ℕ) → RecordMove sent d (g.records d) ((ended b on p).records d)
ended_moves h g on p sent same true is d =
    subst (λ table. RecordMove sent d (table d) (put on.records p (settled (on.records p) (on.gathered p)) d)) same
    (moved_at sent on.records p (settled (on.records p) (on.gathered p)) d
    (was_busy (is_settled (on.records p).phase) refl))
  where
    not_it : (b : Bool) → not b ≡ true → b ≡ false
    not_it true i = absurd cc
    not_it false i = refl

    was_busy : (b : Bool) → is_settled (on.records p).phase ≡ b
        → RecordMove sent p (on.records p) (settled (on.records p) (on.gathered p))
    was_busy b i =
        let a = and_parts (not (is_settled (on.records p).phase)) _ is in
        subst (λ z. RecordMove sent p (on.records p)
        (if z then on.records p else settled (on.records p) (on.gathered p))) (not_it _ a.0)
        (move.ends (on.gathered p))
ended_moves h g on p sent same false is d = subst (λ table. RecordMove sent d (table d) (on.records d)) same move.rests

tell_moves : (h : Hierarchy) (number : ℕ) (g : Grants) (x : ℕ) (r : Standing) (sent : List Message)
    (o : Option Holder) (d : ℕ) → RecordMove sent d (g.records d) ((told_to h number g x r o).grants.records d)
tell_moves h number g x r sent None d = move.rests
tell_moves h number g x r sent (Some Free) d = move.rests
tell_moves h number g x r sent (Some (Operator o)) d = move.rests
tell_moves h number g x r sent (Some (Domain p)) d =
    ended_moves h g (parent_heard g p x r) p sent refl (ends h (parent_heard g p x r) p) refl d

body_moves : (h : Hierarchy) (number : ℕ) (g : Grants) (from : ℕ) (sent : List Message) (m : Message) → Among m sent
    → (b : Body) → m.body ≡ b → (d : ℕ) → RecordMove sent d (g.records d)
    ((datagram_comes h number g from b).grants.records d)
body_moves h number g from sent m a (body.Ask x) b d = move.rests
body_moves h number g from sent m a (body.Take x who s) b d =
    take_moves h number g from x _ who s sent m a b (take_after (g.records x) who s) refl d
body_moves h number g from sent m a (body.Drop x who e) b d =
    drop_moves h number g from x _ who e sent m a b (drop_after (g.records x) who e) refl d
body_moves h number g from sent m a (body.Run x who e n c) b d = run_moves h number g from x who e n c sent m a b d
body_moves h number g from sent m a (body.Tell x r) b d = tell_moves h number g x r sent (listener h number g x r) d
body_moves h number g from sent m a (body.Watch x echo) b d = move.rests
body_moves h number g from sent m a (body.State x echo v s) b d = move.rests
body_moves h number g from sent m a (body.Unwatch x echo) b d = move.rests

obeyed_rests : (h : Hierarchy) (number : ℕ) (g : Grants) (o x : ℕ) (c : Option Command) (sent : List Message)
    (l : Result Link ℕ) (d : ℕ) → RecordMove sent d (g.records d) ((obeyed h number g o x c l).grants.records d)
obeyed_rests h number g o x c sent (Ok l) d = move.rests
obeyed_rests h number g o x c sent (Err code) d = move.rests

order_rests : (h : Hierarchy) (number : ℕ) (g : Grants) (o : ℕ) (sent : List Message) (what : Order) (d : ℕ)
    → RecordMove sent d (g.records d) ((order_comes h number g o what).grants.records d)
order_rests h number g o sent (order.Take x) d =
    obeyed_rests h number g o x None sent (take_begun (g.links (Operator o) x)) d
order_rests h number g o sent (order.Drop x) d =
    obeyed_rests h number g o x None sent (drop_begun (g.links (Operator o) x)) d
order_rests h number g o sent (order.Do x a) d =
    obeyed_rests h number g o x (Some (Do a)) sent (command_issued (g.links (Operator o) x) (Do a)) d
order_rests h number g o sent (order.Include x t) d =
    obeyed_rests h number g o x (Some (Include t)) sent (command_issued (g.links (Operator o) x) (Include t)) d
order_rests h number g o sent (order.Exclude x t) d =
    obeyed_rests h number g o x (Some (Exclude t)) sent (command_issued (g.links (Operator o) x) (Exclude t)) d
order_rests h number g o sent (order.Manual x t) d =
    obeyed_rests h number g o x (Some (Manual t)) sent (command_issued (g.links (Operator o) x) (Manual t)) d
order_rests h number g o sent (order.Ignore x t) d =
    obeyed_rests h number g o x (Some (Ignore t)) sent (command_issued (g.links (Operator o) x) (Ignore t)) d
order_rests h number g o sent (order.Ask x) d = move.rests
order_rests h number g o sent (order.Watch x) d = move.rests
order_rests h number g o sent (order.Unwatch x) d = move.rests
order_rests h number g o sent (order.Report device s) d = move.rests

-- each record of the station moves
pub records_move : (h : Hierarchy) (number : ℕ) (g : Grants) (w : World) (what : Happening) → MayCome w what
    → (d : ℕ) → RecordMove w.sent d (g.records d) ((grant_step h number g what).grants.records d)
records_move h number g w (Comes m) may d = body_moves h number g m.from w.sent m may m.body refl d
records_move h number g w (Orders o what) may d = order_rests h number g o w.sent what d
records_move h number g w (Reports device s) may d = move.rests
records_move h number g w Ticks may d = move.rests
