use Rattle.std.proofs.Common.{◌≡◌, ◌∙◌, ◌+◌, take, sym, ap, arith}
use Rattle.std.specs.Prelude.{sum_by}
use Rattle.std.specs.List.{range_with_len}
use Rattle.mpm_port.specs.Disks.{Disks}
use Rattle.mpm_top.specs.Data.{weighed, data_of}
use Rattle.mpm_top.proofs.DataLaws.{sum_more}
use Rattle.mpm_top.proofs.data.sum_of.Goals as goal

pub loop-place-preserved : goal.loop-place-preserved
loop-place-preserved c =
    let before = c.loop-place.invariant in
    record {
      size = c.weighed-sum.ensures.read.size;
      same = c.weighed-sum.ensures.read.same ∙ before.same;
      small = omega (arith, c.weighed-sum.ensures.small, before.small);
      sum = λ image files here stands.
          (λ i. before.sum image files here stands i + c.weighed-sum.ensures.part image files (ap (λ (disks : Disks). disks.image 0) before.same ∙ here) stands i)
          ∙ sym (sum_more (weighed files) c.loop-place.place c.loop-place-test.true);
    }

pub returns : goal.returns
unfolding data_of
returns c image files here stands =
    let all : c.loop-place.place ≡ 32 = omega arith in
    c.loop-place.invariant.sum image files here stands ∙ ap (λ n. sum_by (weighed files) (take n (range_with_len 0 32))) all
