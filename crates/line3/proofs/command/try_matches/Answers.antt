use Rattle.line3.proofs.command.try_matches.Goals as goal

pub returns-in-Err-clause-refused : goal.returns-in-Err-clause-refused
returns-in-Err-clause-refused c = (
  c.line_fault_of.ensures.usage,
  λ taken. c.line_fault_of.ensures.memory (c.in-Err.ensures.passes taken),
)
