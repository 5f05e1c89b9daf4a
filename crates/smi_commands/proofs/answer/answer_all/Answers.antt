use Rattle.std.proofs.Common.{rules, ◌≡◌, ◌≤◌, ℕ, List, take, drop, [], ◌+◌, ◌-◌, ◌*◌, length, arith, sym, subst, ◌∙◌}
use Rattle.std.proofs.Common.{take-append-drop}
use Rattle.std.proofs.lemmas.List.{length-take, length-drop}
use Rattle.smi_commands.specs.declared.answer.Answered.TheVariants.{Ended, Refused}
use Rattle.smi_commands.proofs.Going.{Goes, Finishes, Leads, read_some, read_none, short, ended_here, refused, written}
use Rattle.smi_commands.proofs.Going.{front_more, has_front, done_of, ends_here, keeps, read_failed, after, block_long}
use Rattle.smi_commands.proofs.Going.{moved, start}
use Rattle.smi_grant.specs.Record.{Standing}
use Rattle.smi_commands.proofs.answer.answer_all.Goals as goal
use Rattle.smi_commands.proofs.answer.answer_all.Goals.{in-Ok, in-Err+else-ne}

pub returns-then-rest-ne0-clause-done : goal.returns-then-rest-ne0-clause-done
returns-then-rest-ne0-clause-done g c =
    let remaining = g.R.Read.remaining in
    let contents = g.W.Write.contents in
    let a = remaining c.args.reader.now in
    let b = remaining c.read.new.self in
    let w0 = contents c.args.writer.now in
    let w = contents c.reads.writer in
    let long = c.reads.invariant.long in
    let piece = take c.reads.rest c.reads.block in
    let here : length piece ≡ c.reads.rest = omega (arith, length-take c.reads.rest c.reads.block) in
    let going = read_none a (remaining c.reads.reader) b c.in-Ok-eq0.field-0 piece c.read.new.buf c.reads.keeper
    c.reads.count w0 w c.in-Ok-eq0.field-0-test c.reads.invariant.going c.in-Ok-eq0.ensures.bytes.0 in
    let end = c.in-Ok-eq0.ensures.bytes.1 c.in-Ok-eq0.field-0-test (search rules) in
    let finished = short a b piece c.reads.keeper c.reads.count w0 w (omega arith) (omega arith) end going in
    done_of a (Refused (c.reads.count + 1) c.code.result) w0 w
    (subst (λ (x : ℕ). Finishes a (Refused (c.reads.count + 1) x) w0 w) (sym c.code.ensures) finished)

pub returns-in-Ok-eq0-clause-done : goal.returns-in-Ok-eq0-clause-done
returns-in-Ok-eq0-clause-done g c =
    let remaining = g.R.Read.remaining in
    let contents = g.W.Write.contents in
    let a = remaining c.args.reader.now in
    let b = remaining c.read.new.self in
    let w0 = contents c.args.writer.now in
    let w = contents c.reads.writer in
    let piece = take c.reads.rest c.reads.block in
    let going = read_none a (remaining c.reads.reader) b c.in-Ok-eq0.field-0 piece c.read.new.buf c.reads.keeper
    c.reads.count w0 w c.in-Ok-eq0.field-0-test c.reads.invariant.going c.in-Ok-eq0.ensures.bytes.0 in
    let end = c.in-Ok-eq0.ensures.bytes.1 c.in-Ok-eq0.field-0-test (search rules) in
    let empty = subst (λ (n : ℕ). Goes a b (take n c.reads.block) c.reads.keeper c.reads.count w0 w)
    c.if-rest-ne0.false going in
    done_of a Ended w0 w (ended_here a b c.reads.keeper c.reads.count w0 w end empty)

pub returns-in_default-clause-front : goal.returns-in_default-clause-front
returns-in_default-clause-front g c =
    let remaining = g.R.Read.remaining in
    let contents = g.W.Write.contents in
    let a = remaining c.args.reader.now in
    let b = remaining c.read.new.self in
    let w0 = contents c.args.writer.now in
    let w = contents c.reads.writer in
    let long = c.reads.invariant.long in
    let n = c.answer_each-progress.result.count in
    let told = take (n * 44) c.answer_each-progress.new.told in
    let going : Goes a b (take c.match-read.end (after c.reads.rest c.reads.block c.read.new.buf)) c.reads.keeper
    c.reads.count w0 w = elim c.match-read.branch [
      | in-Ok u ↦ rw (u.end-is) (read_some a (remaining c.reads.reader) b c.reads.rest u.in-Ok.n c.reads.block
          c.read.new.buf _ c.reads.keeper c.reads.count w0 w (omega arith) u.in-Ok.ensures.bound.0
          c.reads.invariant.going u.in-Ok.ensures.bytes.0)
      | in-Err+else-ne u ↦
          rw (u.end-is) (read_failed a (remaining c.reads.reader) b c.reads.rest c.reads.block c.read.new.buf _
          c.reads.keeper c.reads.count w0 w (omega arith) c.reads.invariant.going u.in-Err.ensures.bytes)
    ] in
    let leads : Leads c.reads.keeper _ c.answer_each-progress.new.keeper n _
    told = (c.answer_each-progress.ensures.answered, c.answer_each-progress.ensures.ending) in
    front_more a b _ _ told c.write_whole.ensures.prefix.0 c.reads.keeper c.answer_each-progress.new.keeper
    c.reads.count n w0 w (contents c.write_whole.new.writer) going leads c.write_whole.ensures.prefix.1

pub returns-in-Some-clause-done : goal.returns-in-Some-clause-done
returns-in-Some-clause-done g c =
    let remaining = g.R.Read.remaining in
    let contents = g.W.Write.contents in
    let a = remaining c.args.reader.now in
    let b = remaining c.read.new.self in
    let w0 = contents c.args.writer.now in
    let w = contents c.reads.writer in
    let long = c.reads.invariant.long in
    let n = c.answer_each-progress.result.count in
    let told = take (n * 44) c.answer_each-progress.new.told in
    let going : Goes a b (take c.match-read.end (after c.reads.rest c.reads.block c.read.new.buf)) c.reads.keeper
    c.reads.count w0 w = elim c.match-read.branch [
      | in-Ok u ↦ rw (u.end-is) (read_some a (remaining c.reads.reader) b c.reads.rest u.in-Ok.n c.reads.block
          c.read.new.buf _ c.reads.keeper c.reads.count w0 w (omega arith) u.in-Ok.ensures.bound.0
          c.reads.invariant.going u.in-Ok.ensures.bytes.0)
      | in-Err+else-ne u ↦
          rw (u.end-is) (read_failed a (remaining c.reads.reader) b c.reads.rest c.reads.block c.read.new.buf _
          c.reads.keeper c.reads.count w0 w (omega arith) c.reads.invariant.going u.in-Err.ensures.bytes)
    ] in
    let leads : Leads c.reads.keeper _ c.answer_each-progress.new.keeper n _
    told = (c.answer_each-progress.ensures.answered, c.answer_each-progress.ensures.ending) in
    let front = take (n * 44) (take c.match-read.end (after c.reads.rest c.reads.block c.read.new.buf)) in
    let cut = sym (take-append-drop (n * 44) (take c.match-read.end (after c.reads.rest c.reads.block
    c.read.new.buf))) in
    let later = written a b _ front _ told c.reads.keeper c.answer_each-progress.new.keeper c.reads.count n w0 w
    (contents c.write_whole.new.writer) cut c.answer_each-progress.ensures.front going leads
    c.in-Ok-write_whole.ensures.all in
    let stop = c.answer_each-progress.ensures.refused c.in-Some.refusal c.in-Some.is in
    let finished = refused a b _ c.answer_each-progress.new.keeper (c.reads.count + n) c.in-Some.refusal w0
    (contents c.write_whole.new.writer) (omega (
      arith,
      stop.0,
      length-drop (n * 44) (take c.match-read.end (after c.reads.rest c.reads.block c.read.new.buf)),
    )) stop.1 later in
    done_of a (Refused (c.reads.count + n + 1) c.code-in-Some.result) w0 (contents c.write_whole.new.writer)
    (subst (λ (x : ℕ). Finishes a (Refused (c.reads.count + n + 1) x) w0 (contents c.write_whole.new.writer))
    (sym c.code-in-Some.ensures) finished)

pub returns-in-Some-clause-front : goal.returns-in-Some-clause-front
returns-in-Some-clause-front g c =
    let remaining = g.R.Read.remaining in
    let contents = g.W.Write.contents in
    let a = remaining c.args.reader.now in
    let b = remaining c.read.new.self in
    let w0 = contents c.args.writer.now in
    let w = contents c.reads.writer in
    let long = c.reads.invariant.long in
    let n = c.answer_each-progress.result.count in
    let told = take (n * 44) c.answer_each-progress.new.told in
    let going : Goes a b (take c.match-read.end (after c.reads.rest c.reads.block c.read.new.buf)) c.reads.keeper
    c.reads.count w0 w = elim c.match-read.branch [
      | in-Ok u ↦ rw (u.end-is) (read_some a (remaining c.reads.reader) b c.reads.rest u.in-Ok.n c.reads.block
          c.read.new.buf _ c.reads.keeper c.reads.count w0 w (omega arith) u.in-Ok.ensures.bound.0
          c.reads.invariant.going u.in-Ok.ensures.bytes.0)
      | in-Err+else-ne u ↦
          rw (u.end-is) (read_failed a (remaining c.reads.reader) b c.reads.rest c.reads.block c.read.new.buf _
          c.reads.keeper c.reads.count w0 w (omega arith) c.reads.invariant.going u.in-Err.ensures.bytes)
    ] in
    let leads : Leads c.reads.keeper _ c.answer_each-progress.new.keeper n _
    told = (c.answer_each-progress.ensures.answered, c.answer_each-progress.ensures.ending) in
    let front = take (n * 44) (take c.match-read.end (after c.reads.rest c.reads.block c.read.new.buf)) in
    let cut = sym (take-append-drop (n * 44) (take c.match-read.end (after c.reads.rest c.reads.block
    c.read.new.buf))) in
    let later = written a b _ front _ told c.reads.keeper c.answer_each-progress.new.keeper c.reads.count n w0 w
    (contents c.write_whole.new.writer) cut c.answer_each-progress.ensures.front going leads
    c.in-Ok-write_whole.ensures.all in
    has_front a b _ c.answer_each-progress.new.keeper (c.reads.count + n) w0 (contents c.write_whole.new.writer) later

pub returns-then-ne-clause-read : goal.returns-then-ne-clause-read
returns-then-ne-clause-read g c =
    let remaining = g.R.Read.remaining in
    let contents = g.W.Write.contents in
    let piece = take c.reads.rest c.reads.block in
    let going = keeps (remaining c.args.reader.now) (remaining c.reads.reader) (remaining c.read.new.self) piece
    c.reads.keeper c.reads.count (contents c.args.writer.now) (contents c.reads.writer) c.reads.invariant.going
    c.in-Err.ensures.bytes in
    ends_here _ (remaining c.args.reader.now) (remaining c.read.new.self) piece c.reads.keeper c.reads.count
    (contents c.args.writer.now) (contents c.reads.writer)
    (omega (arith, c.reads.invariant.within, length-take c.reads.rest c.reads.block)) going

pub returns-clause-read : goal.returns-clause-read
returns-clause-read g c =
    let remaining = g.R.Read.remaining in
    let contents = g.W.Write.contents in
    ends_here _ (remaining c.args.reader.now) (remaining c.reads.reader) (take c.reads.rest c.reads.block)
    c.reads.keeper c.reads.count (contents c.args.writer.now) (contents c.reads.writer)
    (omega (arith, c.reads.invariant.within, length-take c.reads.rest c.reads.block)) c.reads.invariant.going

pub reads-init : goal.reads-init
reads-init g c =
    let a = g.R.Read.remaining c.args.reader.now in
    let w = g.W.Write.contents c.args.writer.now in
    record {
      long = search rules;
      long_told = search rules;
      within = search rules;
      counted = search rules;
      going = subst (λ (r : Standing). Goes a a [] r 0 w w) (sym c.new-keeper.ensures) (start a w);
    }

pub reads-preserved : goal.reads-preserved
reads-preserved g c =
    let remaining = g.R.Read.remaining in
    let contents = g.W.Write.contents in
    let a = remaining c.args.reader.now in
    let b = remaining c.read.new.self in
    let w0 = contents c.args.writer.now in
    let w = contents c.reads.writer in
    let long = c.reads.invariant.long in
    let n = c.answer_each-progress.result.count in
    let told = take (n * 44) c.answer_each-progress.new.told in
    let going : Goes a b (take c.match-read.end (after c.reads.rest c.reads.block c.read.new.buf)) c.reads.keeper
    c.reads.count w0 w = elim c.match-read.branch [
      | in-Ok u ↦ rw (u.end-is) (read_some a (remaining c.reads.reader) b c.reads.rest u.in-Ok.n c.reads.block
          c.read.new.buf _ c.reads.keeper c.reads.count w0 w (omega arith) u.in-Ok.ensures.bound.0
          c.reads.invariant.going u.in-Ok.ensures.bytes.0)
      | in-Err+else-ne u ↦
          rw (u.end-is) (read_failed a (remaining c.reads.reader) b c.reads.rest c.reads.block c.read.new.buf _
          c.reads.keeper c.reads.count w0 w (omega arith) c.reads.invariant.going u.in-Err.ensures.bytes)
    ] in
    let leads : Leads c.reads.keeper _ c.answer_each-progress.new.keeper n _
    told = (c.answer_each-progress.ensures.answered, c.answer_each-progress.ensures.ending) in
    let front = take (n * 44) (take c.match-read.end (after c.reads.rest c.reads.block c.read.new.buf)) in
    let cut = sym (take-append-drop (n * 44) (take c.match-read.end (after c.reads.rest c.reads.block
    c.read.new.buf))) in
    let later = written a b _ front _ told c.reads.keeper c.answer_each-progress.new.keeper c.reads.count n w0 w
    (contents c.write_whole.new.writer) cut c.answer_each-progress.ensures.front going leads
    c.in-Ok-write_whole.ensures.all in
    let whole = c.answer_each-progress.ensures.whole c.in_default-refusal.is in
    let block = after c.reads.rest c.reads.block c.read.new.buf in
    let block_is : length block ≡ 65536 = block_long c.reads.rest c.reads.block c.read.new.buf long (omega arith)
    c.read.auto.buf in
    let room : c.match-read.end ≤ 65536 = elim c.match-read.branch [
      | in-Ok u ↦ omega (
        arith,
        u.end-is,
        u.in-Ok.ensures.bound.0,
        c.read.auto.buf,
        length-take (65536 - c.reads.rest) (drop c.reads.rest c.reads.block),
        length-drop c.reads.rest c.reads.block,
      )
      | in-Err+else-ne u ↦ omega (arith, u.end-is)
    ] in
    let size = length-take c.match-read.end block in
    let front : take (c.match-read.end - n * 44) c.copy_within.new.self ≡ drop (n * 44) (take c.match-read.end block) =
    moved (n * 44) c.match-read.end block c.copy_within.new.self
    (omega (arith, c.answer_each-progress.ensures.within, size)) (omega arith) c.copy_within.ensures.after in
    record {
      long = c.copy_within.ensures.len ∙ block_is;
      long_told = search rules;
      within = omega (arith, whole, size);
      counted = omega (arith, c.answer_each-progress.ensures.within, size);
      going = subst (λ (t : List ℕ). Goes a b t c.answer_each-progress.new.keeper (c.reads.count + n) w0
          (contents c.write_whole.new.writer)) (sym front) later;
    }
