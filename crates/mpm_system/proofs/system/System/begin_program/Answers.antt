use Rattle.mpm_system.proofs.LoadingLaws.{written_is_there}
use Rattle.mpm_system.proofs.system.System.begin_program.Goals as goal

pub occupy-requires : goal.occupy-requires
occupy-requires c = written_is_there c.args.self.now.memory c.put_bytes.new.banks c.args.seg _ _ c.if-not-may_live.ensures.home.exists c.put_bytes.ensures
