use Rattle.std.proofs.Common.{◌≡◌, ◌≤◌, ◌∙◌, length, arith}
use Rattle.ebr_server.proofs.ReadBytes.{read_on, read_to_end, read_enough}
use Rattle.ebr_server.proofs.read.read_bytes.Goals as goal

pub returns-then-branch-eq0-clause-bytes : goal.returns-then-branch-eq0-clause-bytes
returns-then-branch-eq0-clause-bytes g c =
    let limit : length c.loop-bytes.bytes ≤ 1048577 = omega arith in
    read_to_end _ _ _ _ _ _ _ c.loop-bytes.invariant.first c.in_ok-read_some.ensures.reads c.if-branch-eq0.true limit

pub loop-bytes-preserved : goal.loop-bytes-preserved
loop-bytes-preserved g c = record {
  first = read_on _ _ _ _ _ _ c.loop-bytes.invariant.first c.in_ok-read_some.ensures.reads;
  limit = omega (arith, c.in_ok-read_some.ensures.within, c.in_ok-read_some.ensures.grown);
  counted = omega arith;
  same = c.read_some.ensures.same ∙ c.loop-bytes.invariant.same;
}

pub returns-clause-bytes : goal.returns-clause-bytes
returns-clause-bytes g c =
    let full : length c.loop-bytes.bytes ≡ 1048577 = omega arith in
    read_enough _ _ _ _ c.loop-bytes.invariant.first full
