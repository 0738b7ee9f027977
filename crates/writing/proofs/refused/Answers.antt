use Rattle.writing.proofs.Making.{told_err, told_refused}
use Rattle.writing.proofs.refused.Goals as goal

pub judge-requires : goal.judge-requires
judge-requires c = c.requires.room

pub unwrap_err-requires : goal.unwrap_err-requires
unwrap_err-requires c = told_err _ _ c.family.ensures c.judge.ensures c.requires.late

pub returns : goal.returns
returns c = told_refused _ _ c.family.ensures c.judge.ensures c.requires.late c.unwrap_err.ensures
