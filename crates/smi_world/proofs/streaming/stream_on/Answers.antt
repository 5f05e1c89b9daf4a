use Rattle.std.proofs.Common.{[], None, refl, ap, ◌∙◌, arith}
use Rattle.smi_world.proofs.Going.{all_going, anyway, ends_all, ends_long, ends_told, goes_on, if_some, wrote_front}
use Rattle.smi_world.proofs.Going.{wrote_most, wrote_next, wrote_read, wrote_whole}
use Rattle.smi_world.proofs.streaming.stream_on.Goals as goal

pub loop-number-init : goal.loop-number-init
loop-number-init g c = record {
  tree = refl;
  gone = λ w is. all_going c.args.world.now.tree w (g.R.Read.remaining c.args.reader.now) c.new-cutter.result
      c.args.world.now (g.W.Write.contents c.args.writer.now) c.new-cutter.ensures.rest is;
}

pub returns-in-TooLong-clause-done : goal.returns-in-TooLong-clause-done
returns-in-TooLong-clause-done g c = λ w is. if_some _ _ _ (c.loop-number.invariant.gone w is)
    (λ input going. anyway _ _ (ends_long _ _ _ _ _ _ _ _ going [] None _ c.code.ensures c.in-TooLong.ensures.cut))

pub returns-in-TooLong-clause-prefix : goal.returns-in-TooLong-clause-prefix
returns-in-TooLong-clause-prefix g c = λ w is. if_some _ _ _ (c.loop-number.invariant.gone w is)
    (λ input going. wrote_front _ _ _ _ _ _ _ _ going)

pub returns-in-End-clause-done : goal.returns-in-End-clause-done
returns-in-End-clause-done g c = λ w is. if_some _ _ _ (c.loop-number.invariant.gone w is)
    (λ input going. anyway _ _ (ends_all _ _ _ _ _ _ _ _ going [] None c.in-End.ensures.cut))

pub returns-in-End-clause-prefix : goal.returns-in-End-clause-prefix
returns-in-End-clause-prefix g c = λ w is. if_some _ _ _ (c.loop-number.invariant.gone w is)
    (λ input going. wrote_front _ _ _ _ _ _ _ _ going)

pub returns-in-ReadFault-clause-whole : goal.returns-in-ReadFault-clause-whole
returns-in-ReadFault-clause-whole g c = λ w is. if_some _ _ _ (c.loop-number.invariant.gone w is)
    (λ input going. anyway _ _ (wrote_whole _ _ _ _ _ _ _ _ going))

pub returns-in-ReadFault-clause-read : goal.returns-in-ReadFault-clause-read
returns-in-ReadFault-clause-read g c = λ w is. if_some _ _ _ (c.loop-number.invariant.gone w is)
    (λ input going. anyway _ _ (wrote_read _ _ _ _ _ _ _ _ going c.cut.new.self _
    (c.in-ReadFault.ensures.fault refl).0 (c.in-ReadFault.ensures.fault refl).1))

pub returns-in-ReadFault-clause-prefix : goal.returns-in-ReadFault-clause-prefix
returns-in-ReadFault-clause-prefix g c = λ w is. if_some _ _ _ (c.loop-number.invariant.gone w is)
    (λ input going. wrote_front _ _ _ _ _ _ _ _ going)

pub returns-in-Memory-clause-prefix : goal.returns-in-Memory-clause-prefix
returns-in-Memory-clause-prefix g c = λ w is. if_some _ _ _ (c.loop-number.invariant.gone w is)
    (λ input going. wrote_front _ _ _ _ _ _ _ _ going)

pub returns-in-Some-clause-done : goal.returns-in-Some-clause-done
returns-in-Some-clause-done g c = λ w is. if_some _ _ _ (c.loop-number.invariant.gone w is) (λ input going.
    ends_told _ _ _ _ _ _ _ _ going _ _ _ _ _ _ _ _ c.loop-number.invariant.tree c.line.ensures c.in-Line.ensures.cut
    c.in-Some.ensures.ended (λ same. ap g.W.Write.contents same))

pub returns-in-Some-clause-prefix : goal.returns-in-Some-clause-prefix
returns-in-Some-clause-prefix g c = λ w is. if_some _ _ _ (c.loop-number.invariant.gone w is) (λ input going.
    wrote_next _ _ _ _ _ _ _ _ going _ _ _ _ _ c.loop-number.invariant.tree c.line.ensures c.in-Line.ensures.cut
    c.stream_line.ensures.prefix)

pub loop-number-preserved : goal.loop-number-preserved
loop-number-preserved g c = record {
  tree = c.stream_line.ensures.tree ∙ c.loop-number.invariant.tree;
  gone = λ w is. if_some _ _ _ (c.loop-number.invariant.gone w is) (λ input going.
      goes_on _ _ _ _ _ _ _ _ going _ _ _ _ _ _ c.loop-number.invariant.tree c.line.ensures c.in-Line.ensures.cut
      (c.in-None.ensures.goes_on refl)
      (λ v at. c.in-None.ensures.next v at refl) (λ v at. c.in-None.ensures.all v at refl));
}

pub returns-clause-whole : goal.returns-clause-whole
returns-clause-whole g c = λ w is. if_some _ _ _ (c.loop-number.invariant.gone w is)
    (λ input going. anyway _ _ (wrote_whole _ _ _ _ _ _ _ _ going))

pub returns-clause-prefix : goal.returns-clause-prefix
returns-clause-prefix g c = λ w is. if_some _ _ _ (c.loop-number.invariant.gone w is)
    (λ input going. wrote_front _ _ _ _ _ _ _ _ going)

pub returns-clause-read : goal.returns-clause-read
returns-clause-read g c = λ w is. if_some _ _ _ (c.loop-number.invariant.gone w is)
    (λ input going.
    let most = c.loop-number-test.false in anyway _ _ (wrote_most _ _ _ _ _ _ _ _ going _ (omega (arith, most))))
