use Rattle.std.proofs.Common.{◌-◌, length}
use Rattle.trials.proofs.files.tried.ask_all.Given as goal

abbrev pub decreases-loop-record : goal.decreases-loop-record
decreases-loop-record l = length l.reader.file.now - l.reader.at
