-- Reading the parts that other grammars use is right.
use Rattle.ebr_grammar.proofs.Right.{IsRight}
use Rattle.ebr_sqlparse.specs.Statements.{select_list, query_rest, query, insert, update, delete, transaction}
use Rattle.ebr_sqlparse.specs.Parts.{select_list_part, query_rest_part, query_part, insert_part, update_part, delete_part, transaction_part}
use Rattle.ebr_sqlparse.proofs.Reader.{reader}
use Rattle.ebr_sqlparse.proofs.Clear.{select_list_is, query_rest_is, query_is, insert_is, update_is, delete_is, transaction_is}

pub reads_lists : IsRight select_list_part
reads_lists = reader select_list select_list_is

pub reads_rests : IsRight query_rest_part
reads_rests = reader query_rest query_rest_is

pub reads_queries : IsRight query_part
reads_queries = reader query query_is

pub reads_inserts : IsRight insert_part
reads_inserts = reader insert insert_is

pub reads_updates : IsRight update_part
reads_updates = reader update update_is

pub reads_deletes : IsRight delete_part
reads_deletes = reader delete delete_is

pub reads_transactions : IsRight transaction_part
reads_transactions = reader transaction transaction_is
