use Rattle.std.proofs.Common.{◌≡◌, true, sym, subst}
use Rattle.smi_grant.specs.Record.{Standing}
use Rattle.smi_rows.specs.Ranges.{is_standing}
use Rattle.smi_station_decide.proofs.record.answer_ask.Goals as goal

pub send_record-requires-clause-told : goal.send_record-requires-clause-told
send_record-requires-clause-told c = subst (λ (r : Standing). is_standing r ≡ true) (sym c.record.ensures)
    (c.requires.sound.standing c.args.domain)
