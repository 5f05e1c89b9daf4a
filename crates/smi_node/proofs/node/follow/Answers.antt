use Rattle.std.proofs.Common.{List, Option, subst}
use Rattle.smi_grant.specs.declared.Shown.{Shown}
use Rattle.smi_protocol.specs.declared.order.Answer.{Answer}
use Rattle.smi_protocol.specs.declared.order.Mark.{Mark}
use Rattle.smi_node.specs.Carried.{Tells}
use Rattle.smi_node.specs.Shown.{Publishes, Refuses}
use Rattle.smi_node.specs.Told.{MarksNewest}
use Rattle.smi_node.proofs.node.follow.Goals as goal

pub returns-in-Ok : goal.returns-in-Ok
returns-in-Ok g c =
    λ before after sent.
    record {
      sent = sent;
      marked = c.mark_newest.new.desk;
      marks = subst (λ (m : Option Mark). MarksNewest c.args.reply.seat m c.args.desk.now c.mark_newest.new.desk)
          c.issued.ensures c.mark_newest.ensures;
      tells = subst (λ (answers : List Answer). Tells c.args.reply.operators.now c.args.reply.seat c.args.reply.code
          c.args.reply.asker answers c.mark_newest.new.desk c.answer_orders.new.desk) c.answers.ensures
          c.answer_orders.ensures;
      shown = subst (λ (s : Option Shown). Publishes s c.args.board.now c.publish.new.board) c.shown.ensures
          c.in-Ok.ensures.published;
    }

pub returns-in-Err : goal.returns-in-Err
returns-in-Err g c =
    λ before after sent.
    record {
      sent = sent;
      marks = subst (λ (m : Option Mark). MarksNewest c.args.reply.seat m c.args.desk.now c.mark_newest.new.desk)
          c.issued.ensures c.mark_newest.ensures;
      refused = subst (λ (s : Option Shown). Refuses s c.args.board.now c.publish.new.board) c.shown.ensures
          c.in-Err.ensures.refused;
    }
