use Rattle.std.proofs.Common.{◌∙◌, ap, string_bytes}
use Rattle.std.specs.FinMap.{get}
use Rattle.cpl_io.proofs.FilesAt.{changed_here, changed_others}
use Rattle.cpl_io.proofs.named.NamedFiles.put.Goals as goal

pub returns-clause-ok : goal.returns-clause-ok
returns-clause-ok c =
    let here = changed_here c.self.inside.map c.insert.new.self (string_bytes c.in_ok-key.key) c.in_ok-bytes.bytes c.in_ok-insert.ensures.updates in
    rw (c.in_ok-key.ensures.ok, c.in_ok-bytes.ensures.items_if_clones_equal) at here

pub returns-clause-others : goal.returns-clause-others
returns-clause-others c other ne =
    let others = changed_others c.self.inside.map c.insert.new.self (string_bytes c.in_ok-key.key) c.in_ok-bytes.bytes c.in_ok-insert.ensures.updates in
    (rw c.in_ok-key.ensures.ok at others) other ne ∙ ap (λ f. get f other) c.self.view_is
