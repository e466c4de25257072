use Rattle.gt_io.specs.declared.sure_files.SureFiles.{SureFiles}
use Rattle.gt_io.specs.Held.{Held}

-- the files that are held
abbrev pub sure_files_of : SureFiles → Held
sure_files_of f = f.shelf
