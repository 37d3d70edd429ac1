use Rattle.std.proofs.Common.{◌≡◌, ◌++◌, rules}
use Rattle.std.specs.Int.{w32, w64, to_be_bytes}
use Rattle.ebr_record.specs.Payload.{values_bytes}
use Rattle.ebr_encoding.proofs.Again.{change_again}
use Rattle.ebr_encoding.proofs.Writing.{behind_two}
use Rattle.ebr_encoding.proofs.writable.ChangeWritable.write.Goals as goal

pub returns : goal.returns
returns c =
    let table : c.extend.new.self ≡ c.args.into.now ++ to_be_bytes w32 c.args.self.now.row.table.0 = search rules in
    let row : c.extend-2.new.self ≡ c.extend.new.self ++ to_be_bytes w64 c.args.self.now.row.row.0 = search rules in
    record {
      bytes = behind_two c.args.into.now c.extend.new.self c.extend-2.new.self c.write_values.new.into (to_be_bytes w32 c.args.self.now.row.table.0) (to_be_bytes w64 c.args.self.now.row.row.0) (values_bytes c.args.self.now.values) table row c.in_ok-write_values.ensures.bytes;
      again = change_again c.args.self.now (search rules) (search rules) c.in_ok-write_values.ensures.again;
    }
