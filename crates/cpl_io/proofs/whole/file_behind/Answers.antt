use Rattle.std.proofs.Common.{◌+◌, ◌-◌, sym, ◌∙◌, subst, arith, string_bytes}
use Rattle.cpl_io.specs.Disk.{Shows}
use Rattle.cpl_io.proofs.Behind.{shown, behind_here, behind_link, behind_other, behind_none, begins}
use Rattle.cpl_io.proofs.Moments.{started, goes_on}
use Rattle.cpl_io.proofs.whole.file_behind.Goals as goal

pub loop-init : goal.loop-init
loop-init g c =
    let d = g.D.Disk in
    record {
      untouched = λ told other. started d.place d.since c.args.disk.now other;
      found = λ told. begins (d.place c.args.disk.now) (string_bytes c.in_ok-path.path) c.args.name.now c.in_ok-path.ensures.ok;
    }

pub returns-in-Nothing-clause-found : goal.returns-in-Nothing-clause-found
returns-in-Nothing-clause-found g c told =
    let d = g.D.Disk in
    let old = d.place c.args.disk.now in
    let path = string_bytes c.loop.path in
    let found = c.in_ok-look.field-0 in
    let shows = shown found old (d.place c.loop.disk) c.as_str.result.now path c.as_str.ensures.value (c.loop.invariant.untouched told path).is (c.in_ok-look.ensures.found told) in
    sym (behind_here found old (40 - c.loop.counter) path c.in-Nothing.is (omega arith) shows) ∙ c.loop.invariant.found told

pub returns-in-Other-clause-found : goal.returns-in-Other-clause-found
returns-in-Other-clause-found g c told =
    let d = g.D.Disk in
    let old = d.place c.args.disk.now in
    let path = string_bytes c.loop.path in
    let found = c.in_ok-look.field-0 in
    let shows = shown found old (d.place c.loop.disk) c.as_str.result.now path c.as_str.ensures.value (c.loop.invariant.untouched told path).is (c.in_ok-look.ensures.found told) in
    sym (behind_other old (40 - c.loop.counter) path (omega arith) (subst (λ found. Shows found (old path).now) c.in-Other.is shows)) ∙ c.loop.invariant.found told

pub loop-preserved : goal.loop-preserved
loop-preserved g c =
    let d = g.D.Disk in
    let old = d.place c.args.disk.now in
    let path = string_bytes c.loop.path in
    let found = c.in_ok-look.field-0 in
    record {
      untouched = λ told other. goes_on d.place d.since c.args.disk.now c.loop.disk c.look.new.self other (c.loop.invariant.untouched told other) (c.look.ensures.time told) (c.look.ensures.same told other);
      found = λ told.
          let shows = shown found old (d.place c.loop.disk) c.as_str.result.now path c.as_str.ensures.value (c.loop.invariant.untouched told path).is (c.in_ok-look.ensures.found told) in
          sym (behind_link old (40 - c.loop.counter) (40 - (c.loop.counter + 1)) path (string_bytes c.in-Link.behind) (omega arith) (subst (λ found. Shows found (old path).now) c.in-Link.is shows)) ∙ c.loop.invariant.found told;
    }

pub returns-clause-found : goal.returns-clause-found
returns-clause-found g c told =
    let d = g.D.Disk in
    sym (behind_none (d.place c.args.disk.now) (40 - c.loop.counter) (string_bytes c.loop.path) (omega arith)) ∙ c.loop.invariant.found told
