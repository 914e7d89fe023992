use Rattle.std.proofs.Common.{◌∙◌, arith}
use Rattle.fab_nue.proofs.Searching.Adding.{own_read, none_read, made_few, adding_none, adding_one, adding_closes, adding_ends, added_closes_none}
use Rattle.fab_nue.proofs.adding.add_tree.Goals as goal
use Rattle.fab_nue.proofs.adding.add_tree.Goals.{in-Some+in-Yes, in_default}

pub add_behind-requires-clause-spare : goal.add_behind-requires-clause-spare
add_behind-requires-clause-spare g c =
    omega (arith, c.requires.spare, c.loop-s.invariant.adding.spare, made_few c.args.fabric.now c.args.tree.now c.loop-s.s, c.loop-s-test.true, c.switches-s-end.ensures.count)

pub loop-s-preserved : goal.loop-s-preserved
loop-s-preserved g c =
    let t = c.args.fabric.now in
    let tree = c.args.tree.now in
    elim c.match-next.branch [
      | in-Some+in-Yes w ↦
          (let own = own_read tree c.loop-s.s c.next.result w.in-Some.channel c.next.ensures w.in-Some.is in
          rw w.used-is (rw w.steps-is (record {
            adding = adding_one t tree c.args.used.now c.loop-s.used w.add_behind.new.used c.loop-s.s w.in-Some.channel.0 own c.loop-s.invariant.adding (w.add_behind.ensures.added w.in-Yes.is)
                (w.add_behind.ensures.spare w.in-Yes.is) (w.add_behind.ensures.acyclic w.in-Yes.is);
            channels = w.add_behind.ensures.channels ∙ c.loop-s.invariant.channels;
            counted = omega (arith, w.add_behind.ensures.counted, c.loop-s.invariant.counted);
          })))
      | in_default w ↦
          rw w.used-is (rw w.steps-is (record {
            adding = adding_none t tree c.args.used.now c.loop-s.used c.loop-s.s (none_read tree c.loop-s.s c.next.result c.next.ensures w.in_default.is) c.loop-s.invariant.adding;
            channels = c.loop-s.invariant.channels;
            counted = c.loop-s.invariant.counted;
          }))
    ]

pub returns-clause-closes_none : goal.returns-clause-closes_none
returns-clause-closes_none g c = λ e.
    let t = c.args.fabric.now in
    let tree = c.args.tree.now in
    added_closes_none t tree c.args.used.now c.loop-s.used c.requires.tree.each_switch
    (adding_ends t tree c.args.used.now c.loop-s.used c.loop-s.s (omega (arith, c.loop-s-test.false, c.loop-s.auto.s-end, c.switches-s-end.ensures.count)) c.loop-s.invariant.adding) c.loop-s.invariant.adding.acyclic

pub returns-in-WouldClose-clause-closes : goal.returns-in-WouldClose-clause-closes
returns-in-WouldClose-clause-closes g c = λ e.
    let t = c.args.fabric.now in
    let tree = c.args.tree.now in
    adding_closes t tree c.args.used.now c.loop-s.used c.loop-s.s c.in-Some.channel.0 c.requires.tree.each_switch (own_read tree c.loop-s.s c.next.result c.in-Some.channel c.next.ensures c.in-Some.is)
    c.loop-s.invariant.adding (c.add_behind.ensures.closes c.in-WouldClose.is)
