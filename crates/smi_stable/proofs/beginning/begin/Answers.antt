use Rattle.std.proofs.Common.{arith, IsTrue}
use Rattle.sqlite_pool.specs.Header.{first_page}
use Rattle.smi_stable.specs.Beginning.{first_bytes}
use Rattle.smi_stable.proofs.Same.{longer}
use Rattle.smi_stable.proofs.beginning.begin.Goals as goal

pub returns-then-length-gt-PAGE_BYTES-clause-other : goal.returns-then-length-gt-PAGE_BYTES-clause-other
unfolding first_page
returns-then-length-gt-PAGE_BYTES-clause-other g c = λ _ clean _.
    let db : IsTrue (g.D.Disk.is_clean c.len-2.new.self) = grind (arith, clean) in
    let said = c.in_ok-length.ensures.len db in
    longer (g.D.Disk.seen c.args.files.now.db) first_bytes (omega (arith, said, c.if-length-gt-PAGE_BYTES.true))
