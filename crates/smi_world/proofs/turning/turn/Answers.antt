use Rattle.std.proofs.Common.{◌≡◌, ◌+◌, ◌-◌, ◌<◌, length, slice_set, arith, sym, subst}
use Rattle.std.specs.Prelude.{OnOk}
use Rattle.smi_protocol.specs.Schedule.{Turn}
use Rattle.smi_world.specs.declared.post.Post.{Post}
use Rattle.smi_world.specs.Posts.{IsPost}
use Rattle.smi_world.specs.Tasks.{Turned}
use Rattle.smi_world.proofs.Acts.{on_err, on_ok}
use Rattle.smi_world.proofs.HeldPosts.{halts_at, there, turned_at}
use Rattle.smi_world.proofs.turning.turn.Goals as goal

pub returns-in-Some-clause-makes : goal.returns-in-Some-clause-makes
returns-in-Some-clause-makes c = λ w are same.
    let h = c.args.tree.now in
    let number = c.in-Some.task.station in
    let posts = c.args.posts.now.items in
    let i = c.from.result - 1 in
    let range = c.in-Some.ensures.within in
    let at : number ≡ 1 + i = omega (arith, c.from.ensures, range.least) in
    let within : i < length posts = omega (arith, c.from.ensures, range.least, range.most, c.requires.count) in
    let is = subst (λ (p : Post). IsPost h number p (w.stations number)) (sym c.index_mut-post.ensures.value)
    (there h w posts number i at within are c.index_mut-post.result.now) in
    subst (λ (t : Turn). OnOk c.make_part.result
    (Turned h (slice_set posts i c.make_part.new.post) c.make_part.new.left t)) (c.in-Some.ensures.task w same)
    (on_ok c.make_part.result (c.make_part.ensures.makes h number (w.stations number) is)
    (λ makes. turned_at h w posts number i at within are c.make_part.new.post c.make_part.new.left _ makes))

pub returns-in-Some-clause-halts : goal.returns-in-Some-clause-halts
returns-in-Some-clause-halts c = λ w are same.
    let h = c.args.tree.now in
    let number = c.in-Some.task.station in
    let posts = c.args.posts.now.items in
    let i = c.from.result - 1 in
    let range = c.in-Some.ensures.within in
    let at : number ≡ 1 + i = omega (arith, c.from.ensures, range.least) in
    let within : i < length posts = omega (arith, c.from.ensures, range.least, range.most, c.requires.count) in
    let is = subst (λ (p : Post). IsPost h number p (w.stations number)) (sym c.index_mut-post.ensures.value)
    (there h w posts number i at within are c.index_mut-post.result.now) in
    on_err c.make_part.result (c.make_part.ensures.halts h number (w.stations number) is)
    (λ how. halts_at h w posts number i at within are c.make_part.new.post c.in-Some.task.doing c.args.item.now
    (c.in-Some.ensures.stop w same) how)
