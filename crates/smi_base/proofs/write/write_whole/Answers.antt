use Rattle.std.proofs.Common.{ℕ, take, arith, sym, subst}
use Rattle.std.specs.Io.KnownBytes.{Appends}
use Rattle.std.proofs.KnownBytes.{Appends-kept}
use Rattle.smi_base.proofs.Written.{more_written}
use Rattle.smi_base.proofs.write.write_whole.Goals as goal
use Rattle.smi_base.proofs.write.write_whole.Goals.{in-Ok, in-Err+else-ne}

pub tries-preserved : goal.tries-preserved
tries-preserved g c =
    let contents = g.W.Write.contents in
    elim c.match-write.branch [
      | in-Ok w ↦ record {
        within = omega (arith, w.in-Ok.ensures.bound);
        written = subst (λ (k : ℕ). Appends (contents c.args.writer.now) (contents c.write.new.self)
            (take k c.args.bytes.now)) (sym w.at-is)
            (more_written (contents c.args.writer.now) (contents c.tries.writer) (contents c.write.new.self)
            c.tries.at w.in-Ok.n c.args.bytes.now c.tries.invariant.written w.in-Ok.ensures.bytes);
      }
      | in-Err+else-ne w ↦ record {
        within = omega arith;
        written = subst (λ (k : ℕ). Appends (contents c.args.writer.now) (contents c.write.new.self)
            (take k c.args.bytes.now)) (sym w.at-is)
            (Appends-kept (contents c.args.writer.now) (contents c.tries.writer) (contents c.write.new.self)
            (take c.tries.at c.args.bytes.now) c.tries.invariant.written w.in-Err.ensures.bytes);
      }
    ]
