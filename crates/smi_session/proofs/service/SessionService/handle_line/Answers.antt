use Rattle.std.proofs.Common.{◌≡◌, sym, refl, Some, false, length, arith}
use Rattle.std.proofs.lemmas.Bool.Decides.{nat_tests}
use Rattle.std.proofs.lemmas.Result.{on_ok_weaker}
use Rattle.std.specs.Prelude.{nat_lt}
use Rattle.smi_base.specs.declared.trees.TheConstants.{MOST_BYTES_OF_A_LINE}
use Rattle.smi_session.specs.Handling.{tag_in_line}
use Rattle.smi_session.specs.Tag.{tag_text}
use Rattle.smi_session.proofs.service.SessionService.handle_line.Goals as goal

-- the tag of the line is the one that was found
pub returns-in-Some-clause-ok : goal.returns-in-Some-clause-ok
returns-in-Some-clause-ok g c =
    let within : nat_lt MOST_BYTES_OF_A_LINE (length c.args.line.items) ≡ false
    = grind (arith, nat_tests, c.if-len-le-MOST_BYTES_OF_A_LINE.true, c.len.ensures) in
    let spelled : tag_in_line c.args.line.items ≡ Some (tag_text c.in-Some.tag)
    = rw (within, ← c.as_slice.ensures.value) (sym c.in-Some.ensures.tag) in
    rw spelled (on_ok_weaker c.handle.result (λ attends. (
      c.in-Some.tag,
      c.in-Some.text.now,
      refl,
      rw (← c.as_slice.ensures.value) c.in-Some.ensures.rest,
      rw (c.count_line-number.ensures.number, c.count_line-number.ensures.counted) at attends,
    )) c.handle.ensures.ok)
