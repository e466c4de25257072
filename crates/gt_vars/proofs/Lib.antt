mod VarsEntries
mod VarsCounts
mod EntriesCount
mod Unbound
