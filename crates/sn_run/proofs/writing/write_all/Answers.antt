use Rattle.sn_run.proofs.WrittenFiles.{both_written, stops_before, stops_behind}
use Rattle.sn_run.proofs.writing.write_all.Goals as goal

pub returns-in-Err-clause-err : goal.returns-in-Err-clause-err
returns-in-Err-clause-err g c = stops_before _ _ _ _ _ _ _ c.in-Err.ensures.err

pub returns-in-Ok-write_files-clause-ok : goal.returns-in-Ok-write_files-clause-ok
returns-in-Ok-write_files-clause-ok g c = both_written _ _ _ _ _ _ c.in-Ok.ensures.ok c.in-Ok-write_files.ensures.ok

pub returns-in-Err-write_files-clause-err : goal.returns-in-Err-write_files-clause-err
returns-in-Err-write_files-clause-err g c =
    stops_behind _ _ _ _ _ _ _ _ c.in-Ok.ensures.ok c.in-Err-write_files.ensures.err
