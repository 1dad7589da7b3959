use Rattle.kept_lines.proofs.begun.begin.Goals as goal

pub returns-else-is_blank-clause-begins : goal.returns-else-is_blank-clause-begins
returns-else-is_blank-clause-begins g c = c.open.ensures.begins c.args.terms

pub returns-else-is_blank-clause-entries : goal.returns-else-is_blank-clause-entries
returns-else-is_blank-clause-entries g c = c.open.ensures.entries c.args.terms
