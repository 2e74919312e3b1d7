use Rattle.std.proofs.Common.{◌∙◌, ap, Some, None, rules}
use Rattle.std.specs.FinMap.{get}
use Rattle.cpl_io.proofs.FilesAt.{bytes_here, grown, changed_here, changed_others}
use Rattle.cpl_io.proofs.named.NamedFiles.extend.Goals as goal

pub returns-in-Some-clause-ok : goal.returns-in-Some-clause-ok
returns-in-Some-clause-ok c =
    let next = c.extend_from_slice.new.self in
    let n = c.get_mut.follows.lender next in
    let here = changed_here c.self.inside.map n c.args.name.now next ((c.get_mut.follows.holds next).3 (search rules)) in
    let was = bytes_here c.self.inside.map c.args.self.now c.args.name.now (Some c.in-Some.file.now) c.self.view_is c.in-Some.ensures.value in
    rw (← was) (grown c.extend_from_slice.result _ c.args.name.now next.items c.in-Some.file.now.items c.args.bytes.now here c.extend_from_slice.ensures.items)

pub returns-in-Some-clause-others : goal.returns-in-Some-clause-others
returns-in-Some-clause-others c other ne =
    let next = c.extend_from_slice.new.self in
    let u = (c.get_mut.follows.holds next).3 (search rules) in
    changed_others c.self.inside.map (c.get_mut.follows.lender next) c.args.name.now next u other ne ∙ ap (λ f. get f other) c.self.view_is

pub returns-in-None-clause-ok : goal.returns-in-None-clause-ok
returns-in-None-clause-ok c =
    let none = bytes_here c.self.inside.map c.args.self.now c.args.name.now None c.self.view_is c.in-None.ensures.value in
    rw (← none) c.put.ensures.ok
