-- What a coupled run writes and prints.
use Rattle.std.specs.Prelude.{ℕ, ◌+◌, List, [], ◌∷◌, ◌++◌, codes}
use Rattle.cpl_plan.specs.Plans.{PlanParts}
use Rattle.cpl_stocks.specs.Tables.{stocks_text, exchanges_text}
use Rattle.cpl_whole.specs.declared.run.Outcome.{Outcome}
use Rattle.cpl_top.specs.Counts.{coupled_counts, done_line}
use Rattle.cpl_restart.specs.SecondBytes.{second_bytes}
use Rattle.cpl_top.specs.declared.output.Output.{Output}
use Rattle.cpl_top.specs.declared.output.Reply.{Reply}
use Rattle.cpl_top.specs.declared.status.Which.TheVariants as which

-- the table of stocks, that of exchanges, and a restart
abbrev pub run_outputs : (out stocks exchanges restart : List ℕ) → List Output
run_outputs out stocks exchanges restart =
    record { which = which.Stocks; name = out ++ codes ".stocks"; bytes = stocks }
    ∷ record { which = which.Exchanges; name = out ++ codes ".exchanges"; bytes = exchanges }
    ∷ record { which = which.Restart; name = out ++ codes ".restart"; bytes = restart } ∷ []

-- the coupling steps, the cells of the three mosaics, and the exchange cells of both lists
abbrev pub run_line : PlanParts → List ℕ
run_line plan =
    let counts = coupled_counts plan.grid in
    done_line plan.names.steps (counts.air + counts.land + counts.ocean) counts.exchange

-- outputs and line of a run of this plan with this outcome. The restart is the last state in version 2
unfoldable pub run_reply : List ℕ → PlanParts → Outcome → Reply
run_reply out plan outcome = record {
  outputs = run_outputs out (stocks_text outcome.stocks) (exchanges_text outcome.exchanges) (second_bytes outcome.last);
  line = run_line plan;
}
