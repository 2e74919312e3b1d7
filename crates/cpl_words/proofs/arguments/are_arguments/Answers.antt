use Rattle.std.proofs.Common.{◌∙◌}
use Rattle.cpl_words.proofs.Texts.{each_text}
use Rattle.cpl_words.proofs.arguments.are_arguments.Goals as goal

pub returns : goal.returns
returns c = c.each_is_argument.ensures ∙ each_text c.args.words.now
