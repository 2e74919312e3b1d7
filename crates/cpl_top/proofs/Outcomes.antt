-- What a run leaves, and what is written of it.
use Rattle.std.proofs.Common.{◌≡◌, ◌≢◌, sym, ap, subst, ℕ, List, [], ◌∷◌, ◌++◌, length, arith}
use Rattle.std.specs.Prelude.{codes}
use Rattle.std.proofs.lemmas.List.{append_cancel_left}
use Rattle.std.proofs.lemmas.List.Elements.{All-nil, All-cons}
use Rattle.std.proofs.lemmas.List.Kept.{AllPairs-cons}
use Rattle.cpl_plan.specs.Plans.{PlanParts}
use Rattle.cpl_state.specs.CouplingStep.{state_after}
use Rattle.cpl_whole.specs.declared.run.Outcome.{Outcome}
use Rattle.cpl_whole.specs.Rows.{stock_rows, exchange_rows}
use Rattle.cpl_stocks.specs.Tables.{stocks_text, exchanges_text}
use Rattle.cpl_top.specs.Replies.{AreApart}
use Rattle.cpl_restart.specs.SecondBytes.{second_bytes}
use Rattle.cpl_top.specs.Runs.{run_line, run_outputs, run_reply}
use Rattle.cpl_top.specs.Whole.{outcome_of}
use Rattle.cpl_top.specs.declared.output.Output.{Output}
use Rattle.cpl_top.specs.declared.output.Reply.{Reply}
use Rattle.cpl_top.specs.declared.status.Which.TheVariants as which

-- an outcome by its three parts
pub outcome_is : (plan : PlanParts) (outcome : Outcome)
    → outcome.stocks ≡ stock_rows plan.grid plan.names plan.start plan.names.steps
    → outcome.exchanges ≡ exchange_rows plan.grid plan.names plan.start plan.names.steps
    → outcome.last ≡ state_after plan.names.steps plan.grid plan.names plan.start
    → outcome ≡ outcome_of plan
outcome_is plan outcome stocks exchanges last = λ i. record { stocks = stocks i; exchanges = exchanges i; last = last i }

-- ---- the outputs have different names

-- one name with endings of different lengths
pub ends_apart : (out a b : List ℕ) → length a ≢ length b → (out ++ a) ≢ (out ++ b)
ends_apart out a b differ same = differ (ap length (append_cancel_left out a b same))

pub three_apart : (x y z : Output) → x.name ≢ y.name → x.name ≢ z.name → y.name ≢ z.name → AreApart (x ∷ y ∷ z ∷ [])
three_apart x y z xy xz yz =
    let R : Output → Output → Type 0 = λ a b. a.name ≢ b.name in
    AllPairs-cons R x (y ∷ z ∷ []) (All-cons (R x) y (z ∷ []) xy (All-cons (R x) z [] xz (All-nil (R x))))
    (AllPairs-cons R y (z ∷ []) (All-cons (R y) z [] yz (All-nil (R y)))
    (AllPairs-cons R z [] (All-nil (R z)) (λ i j d lt in_none. absurd (omega arith))))

outputs_apart : (out stocks exchanges restart : List ℕ) → AreApart (run_outputs out stocks exchanges restart)
outputs_apart out stocks exchanges restart =
    three_apart
    (record { which = which.Stocks; name = out ++ codes ".stocks"; bytes = stocks })
    (record { which = which.Exchanges; name = out ++ codes ".exchanges"; bytes = exchanges })
    (record { which = which.Restart; name = out ++ codes ".restart"; bytes = restart })
    (ends_apart out (codes ".stocks") (codes ".exchanges") (λ e. omega arith))
    (ends_apart out (codes ".stocks") (codes ".restart") (λ e. omega arith))
    (ends_apart out (codes ".exchanges") (codes ".restart") (λ e. omega arith))

module _ (out : List ℕ) (plan : PlanParts) (outcome : Outcome) where
  pub reply_apart : (reply : Reply) → reply ≡ run_reply out plan outcome → AreApart reply.outputs
  unfolding run_reply
  reply_apart reply is =
      let outputs = ap (λ (reply : Reply). reply.outputs) is in
      subst AreApart (sym outputs) (outputs_apart out (stocks_text outcome.stocks) (exchanges_text outcome.exchanges) (second_bytes outcome.last))

  -- outputs and line, each as the definition has it
  pub reply_is : (reply : Reply)
      → reply.outputs ≡ run_outputs out (stocks_text outcome.stocks) (exchanges_text outcome.exchanges) (second_bytes outcome.last)
      → reply.line ≡ run_line plan → reply ≡ run_reply out plan outcome
  unfolding run_reply
  reply_is reply outputs line = λ i. record { outputs = outputs i; line = line i }
