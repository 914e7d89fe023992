use Rattle.std.proofs.Common.{◌≡◌, ◌*◌, ◌≤◌, length, replicate, sym, ◌∙◌, ap, subst, arith}
use Rattle.std.specs.Prelude.{◌==◌, All}
use Rattle.std.proofs.lemmas.List.{length-map}
use Rattle.fab_transit.specs.declared.found.Found.TheInside.{Inside}
use Rattle.fab_transit.specs.Finding.{AreFindings}
use Rattle.fab_transit.specs.Marks.{standing_marks}
use Rattle.fab_transit.proofs.Marking.{next_stamp, first_stamp}
use Rattle.fab_transit.proofs.found.Found.clear.Goals as goal
use Rattle.fab_transit.proofs.found.Found.clear.Goals.{in-Some, in-None}

pub invariant_of-self : goal.invariant_of-self
invariant_of-self c =
    let f = c.self.inside in
    let taken = c.clear.new.self.items in
    elim c.match-checked_add.branch [
      | in-Some w ↦
          subst (λ (g : Inside). AreFindings g.channels g.bound (standing_marks g.stamp g.marks.items) taken × All (λ mark. mark ≤ g.stamp) g.marks.items) (sym w.self-inside-is)
          (next_stamp f.channels f.bound f.stamp f.marks.items f.taken.items taken c.self.invariant c.checked_add.result w.in-Some.stamp c.checked_add.ensures w.in-Some.is c.clear.ensures.items)
      | in-None w ↦
          (let count : f.marks.len ≡ length f.marks.items = omega (arith, f.marks.ok.0) in
          let room : f.marks.len ≡ f.channels * f.bound * 16 = count ∙ sym (length-map f.marks.items (λ mark. mark == f.stamp)) ∙ c.self.invariant.0.room in
          let zeros : w.fill.new.self.items ≡ replicate f.marks.len 0 = w.fill.ensures.items (λ y same. same) in
          subst (λ (g : Inside). AreFindings g.channels g.bound (standing_marks g.stamp g.marks.items) taken × All (λ mark. mark ≤ g.stamp) g.marks.items) (sym w.self-inside-is)
          (first_stamp f.channels f.bound w.fill.new.self.items taken (zeros ∙ ap (λ n. replicate n 0) room) c.self.invariant.0.small c.clear.ensures.items))
    ]
