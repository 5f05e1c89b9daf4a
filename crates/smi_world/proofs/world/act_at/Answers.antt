use Rattle.std.proofs.Common.{List, ◌++◌, ap, sym, ◌∙◌}
use Rattle.std.specs.Prelude.{if◌then◌else◌, is_ok}
use Rattle.smi_message.specs.Message.{Message}
use Rattle.smi_world.specs.Left.{Left}
use Rattle.smi_world.proofs.Reached.{made_is}
use Rattle.smi_world.proofs.world.act_at.Goals as goal

pub returns-clause-makes : goal.returns-clause-makes
returns-clause-makes c = λ w at.
    let b = is_ok c.extend_from_slice.result in
    made_is c.args.tree.now w c.extend_from_slice.result c.args.posts.now.items c.turn.new.posts.items
    c.args.sent.now.items c.extend_from_slice.new.self.items c.turn.new.left c.args.item.now at c.turn.ensures.count
    (c.turn.ensures.before ∙ c.len.ensures ∙ c.reserve.ensures.len ∙ c.args.sent.now.ok.0)
    (c.in_ok-turn.ensures.makes w at.posts (sym (c.deref.ensures.value ∙ c.reserve.ensures.items ∙ at.sent)))
    (c.extend_from_slice.ensures.items
    ∙ ap (λ (ms : List Message). if b then ms ++ c.datagrams.result.now else ms) c.reserve.ensures.items
    ∙ ap (λ (ms : List Message). if b then c.args.sent.now.items ++ ms else c.args.sent.now.items)
    (c.datagrams.ensures.value ∙ ap (λ (l : Left). l.out.datagrams) c.left-2.view_is))
