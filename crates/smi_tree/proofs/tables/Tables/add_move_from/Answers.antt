use Rattle.std.proofs.Common.{rules}
use Rattle.smi_tree.proofs.MoveLines.{move-found}
use Rattle.smi_tree.proofs.tables.Tables.add_move_from.Goals as goal

pub returns-in_err-to : goal.returns-in_err-to
returns-in_err-to c = λ class_name from_name action_name table class_is kind_is from_is action_is.
    rw (move-found c.args.self.now class_name from_name action_name c.args.to.now c.args.class c.args.from c.args.action
    table c.args.kind class_is kind_is from_is action_is) (search rules)

pub returns-then-is_some : goal.returns-then-is_some
returns-then-is_some c = λ class_name from_name action_name table class_is kind_is from_is action_is.
    rw (move-found c.args.self.now class_name from_name action_name c.args.to.now c.args.class c.args.from c.args.action
    table c.args.kind class_is kind_is from_is action_is) (search rules)

pub returns-then-ne : goal.returns-then-ne
returns-then-ne c = λ class_name from_name action_name table class_is kind_is from_is action_is.
    rw (move-found c.args.self.now class_name from_name action_name c.args.to.now c.args.class c.args.from c.args.action
    table c.args.kind class_is kind_is from_is action_is) (search rules)

pub returns : goal.returns
returns c = λ class_name from_name action_name table class_is kind_is from_is action_is.
    rw (move-found c.args.self.now class_name from_name action_name c.args.to.now c.args.class c.args.from c.args.action
    table c.args.kind class_is kind_is from_is action_is) (search rules)
