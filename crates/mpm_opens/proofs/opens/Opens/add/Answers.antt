use Rattle.std.proofs.Common.{◌≡◌, ◌∙◌, ap, IfOk}
use Rattle.std.specs.Prelude.{Some}
use Rattle.mpm_opens.specs.Items.{number_of, add_answer}
use Rattle.mpm_opens.specs.Opens.{OpenFiles, added}
use Rattle.mpm_opens.proofs.FindingLaws.{named, lives, its_where_named, opens_file, unchanged}
use Rattle.mpm_opens.proofs.OpenLaws.{open_added}
use Rattle.mpm_opens.proofs.opens.Opens.add.Goals as goal

pub invariant_of-self : goal.invariant_of-self
invariant_of-self c = rw c.add.ensures.items (open_added c.self.inside.items c.self.inside.locks c.args.p c.args.file c.args.mode c.self.invariant)

pub returns : goal.returns
unfolding added
returns c =
    let p = c.args.p in
    let file = c.args.file in
    let mode = c.args.mode in
    let items = c.self.inside.items in
    let locks = c.self.inside.locks in
    let new : OpenFiles = record { items = c.add.new.self; locks = locks } in
    let is_named : IfOk c.add.result (λ item. number_of new.items p file ≡ Some item) = named items p file mode c.add.new.self c.add.result c.add.ensures.items c.add.ensures.answer in
    record {
      opens = rw c.add.ensures.items (ap (λ (o : OpenFiles). added o p file mode) c.self.view_is);
      answer = c.add.ensures.answer ∙ ap (λ (o : OpenFiles). add_answer o.items p file mode) c.self.view_is;
      named = is_named;
      live = lives items p file mode c.add.new.self c.add.result c.add.ensures.items c.add.ensures.answer;
      its = its_where_named new p file c.add.result is_named;
      opened = opens_file items locks p file mode c.add.new.self c.add.result c.args.self.now c.add.ensures.items c.add.ensures.answer c.self.view_is;
      refused = unchanged items locks p file mode c.add.new.self c.add.result c.args.self.now c.add.ensures.items c.add.ensures.answer c.self.view_is;
      sound = rw c.add.ensures.items (open_added items locks p file mode c.self.invariant);
    }
