-- The laws of columns, as they are stated beside the columns of consoles.
pub use Rattle.mpm_consoles.proofs.ColumnLaws.{columns_append, columns_one, columns_nil, expanded_nil, expanded_cons, expanded_append, first_spaces, expanded_byte, columns_spaces}
